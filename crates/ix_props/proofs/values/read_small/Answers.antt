use Rattle.std.proofs.Common.{◌≡◌, ◌∙◌, None, refl, sym}
use Rattle.ix_conf.specs.Lent.{item_entry}
use Rattle.ix_props.specs.Values.{IsBad, plain_value}
use Rattle.ix_props.proofs.ValueLemmas.{refuses}
use Rattle.ix_props.proofs.values.read_small.Goals as goal

pub returns-in-None-clause-err : goal.returns-in-None-clause-err
returns-in-None-clause-err c =
    refuses (λ f. IsBad (item_entry c.args.item) (plain_value c.args.kind c.args.item.value.now ≡ None) f) c.bad_value.result _
    c.bad_value.ensures
    (refl, refl, sym c.plain_value.ensures ∙ c.in-None.is) tt
