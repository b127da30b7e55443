use Rattle.std.proofs.Common.{refl}
use Rattle.ix_conf.specs.Lent.{item_entry}
use Rattle.ix_props.specs.Values.{RefusesZoneName}
use Rattle.ix_props.proofs.ValueLemmas.{refuses}
use Rattle.ix_props.proofs.values.read_zone.Goals as goal

pub returns-in-Err-Unknown-clause-err : goal.returns-in-Err-Unknown-clause-err
returns-in-Err-Unknown-clause-err c =
    refuses (λ f. RefusesZoneName c.args.zones.now (item_entry c.args.item) f) c.unknown_zone.result _ c.unknown_zone.ensures
    (refl, refl, rw c.in-Err-Unknown.field-0-is at c.in-Err-Unknown.ensures.err) tt

pub returns-in-Err-BadRule-clause-err : goal.returns-in-Err-BadRule-clause-err
returns-in-Err-BadRule-clause-err c =
    refuses (λ f. RefusesZoneName c.args.zones.now (item_entry c.args.item) f) c.bad_value.result _ c.bad_value.ensures
    (refl, refl, rw c.in-Err-BadRule.field-0-is at c.in-Err-BadRule.ensures.err) tt
