use Rattle.std.proofs.Common.{◌∙◌}
use Rattle.std.proofs.lemmas.Result.{err_from_is_err_and}
use Rattle.ix_props.proofs.PropLemmas.{AreTransforms-next, refused}
use Rattle.ix_props.proofs.lists.read_transforms.Goals as goal

pub returns-in_err-transform-clause-err : goal.returns-in_err-transform-clause-err
returns-in_err-transform-clause-err c =
    let p = err_from_is_err_and c.from_residual-in_err-transform.result c.from_residual-in_err-transform.ensures.1 in
    rw (p.1, p.2)
    (refused c.args.transforms.now _ _ c.as_slice-name-items.result.now c.loop-name.found c.loop-name.name-index _ c.as_slice.result.now _
    (c.as_slice-name-items.ensures ∙ c.in_ok-names.ensures) c.loop-name-test.true (c.as_slice.ensures
    ∙ c.name-item.is) c.loop-name.invariant
    c.in_err-transform.ensures.err)

pub loop-name-preserved : goal.loop-name-preserved
loop-name-preserved c =
    rw c.in_ok-push.ensures.ok
    (AreTransforms-next c.args.transforms.now c.as_slice-name-items.result.now c.loop-name.found c.loop-name.name-index _
    c.as_slice.result.now _
    c.loop-name-test.true (c.as_slice.ensures ∙ c.name-item.is) c.loop-name.invariant c.in_ok-transform.ensures.ok)
