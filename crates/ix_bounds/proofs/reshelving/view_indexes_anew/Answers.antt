use Rattle.std.proofs.Common.{ap, sym, subst, ◌∙◌, List}
use Rattle.ix_model.specs.Step.{state_after}
use Rattle.ix_bounds.specs.Shelving.{AreIndexes, bucketed}
use Rattle.ix_bounds.specs.declared.shelving.Bucketed.{Bucketed}
use Rattle.ix_bounds.proofs.Numbered.{are_indexes}
use Rattle.ix_bounds.proofs.Steps.{if_ok}
use Rattle.ix_bounds.proofs.reshelving.view_indexes_anew.Goals as goal

pub returns : goal.returns
returns c =
    if_ok _ _ c.view_indexes.result
    (λ list made choose history force next brings settings old moved.
    made next (state_after choose history).catalog.indexes settings
    (subst (λ (l : List Bucketed). AreIndexes (state_after choose history).catalog.indexes l)
    (sym (c.in_ok-bucketed.ensures ∙ ap (bucketed c.args.ledger.now) (c.as_slice.ensures ∙ old)))
    (are_indexes choose history force c.args.ledger.now moved brings)))
    c.view_indexes.ensures
