use Rattle.std.proofs.Common.{◌≡◌, None, refl}
use Rattle.ix_conf.specs.Lent.{item_entry}
use Rattle.ix_conf_values.specs.Formats.{format}
use Rattle.ix_props.specs.Values.{IsBad}
use Rattle.ix_props.proofs.ValueLemmas.{refuses}
use Rattle.ix_props.proofs.values.read_format.Goals as goal

pub returns-in-Err-BadValue-clause-err : goal.returns-in-Err-BadValue-clause-err
returns-in-Err-BadValue-clause-err c =
    refuses (λ f. IsBad (item_entry c.args.item) (format c.args.item.value.now ≡ None) f) c.bad_value.result _ c.bad_value.ensures
    (refl, refl, rw c.in-Err-BadValue.field-0-is at c.in-Err-BadValue.ensures.err) tt
