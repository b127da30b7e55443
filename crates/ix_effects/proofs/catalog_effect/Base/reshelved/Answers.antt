use Rattle.std.proofs.Common.{sym, ◌∙◌, subst, List}
use Rattle.std.specs.List.Sorted.{IsPermutation}
use Rattle.std.proofs.lemmas.Result.{IfOk-weaker}
use Rattle.ix_items.specs.declared.items.Entry.{Entry}
use Rattle.ix_model.specs.Step.{state_after}
use Rattle.ix_effects.proofs.catalog_effect.Base.reshelved.Goals as goal

pub returns : goal.returns
returns c =
    IfOk-weaker c.view_indexes_anew.result _ _ (λ indexes e new r.
    e r.choose r.history r.before r.behind r.limits r.settings r.old_is
    (subst (λ (l : List Entry). IsPermutation l (state_after r.choose r.history).catalog.ledger) (sym c.here.ensures) r.ledger_is)
    ∙ sym r.new_is) c.view_indexes_anew.ensures
