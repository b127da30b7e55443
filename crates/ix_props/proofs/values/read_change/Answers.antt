use Rattle.std.proofs.Common.{refl}
use Rattle.ix_conf.specs.Lent.{item_entry}
use Rattle.ix_props.specs.Values.{RefusesChange}
use Rattle.ix_props.proofs.ValueLemmas.{refuses}
use Rattle.ix_props.proofs.values.read_change.Goals as goal

pub returns-in-Err-BadValue-clause-err : goal.returns-in-Err-BadValue-clause-err
returns-in-Err-BadValue-clause-err c =
    refuses (λ f. RefusesChange (item_entry c.args.item) f) c.bad_value.result _ c.bad_value.ensures
    (refl, refl, rw c.in-Err-BadValue.field-0-is at c.in-Err-BadValue.ensures.err) tt

pub returns-in-Err-BadPattern-clause-err : goal.returns-in-Err-BadPattern-clause-err
returns-in-Err-BadPattern-clause-err c =
    refuses (λ f. RefusesChange (item_entry c.args.item) f) c.bad_pattern.result _ c.bad_pattern.ensures
    (refl, refl, rw c.in-Err-BadPattern.field-0-is at c.in-Err-BadPattern.ensures.err) tt
