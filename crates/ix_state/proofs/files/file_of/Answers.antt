use Rattle.std.proofs.Common.{◌∷◌, [], ◌++◌, ap, ◌∙◌}
use Rattle.ix_state.proofs.Lists.{said_more}
use Rattle.ix_state.proofs.files.file_of.Goals as goal

pub loop-one-preserved : goal.loop-one-preserved
loop-one-preserved c =
    said_more c.args.kept.now c.loop-one.one-index c.one-item.result c.loop-one.file c.push.new.self _ c.loop-one-test.true c.one-item.is
    (c.in_ok-push.ensures.ok ∙ ap (λ x. c.loop-one.file ++ x ∷ []) c.in_ok-said.ensures) c.loop-one.invariant
