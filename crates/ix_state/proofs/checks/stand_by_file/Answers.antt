use Rattle.std.proofs.Common.{sym, ◌∙◌}
use Rattle.ix_state.proofs.CheckLemmas.{file_more, file_breaks, file_end}
use Rattle.ix_state.proofs.checks.stand_by_file.Goals as goal

pub loop-one-preserved : goal.loop-one-preserved
loop-one-preserved c =
    file_more c.loop-one.file c.args.kept.now c.loop-one.one-index c.one-item.result _ c.loop-one-test.true c.one-item.is
    (sym c.if-not-follows.false ∙ c.follows.ensures) c.loop-one.invariant

pub returns-then-not-follows : goal.returns-then-not-follows
returns-then-not-follows c =
    file_breaks c.loop-one.file c.args.kept.now c.loop-one.one-index c.one-item.result _ c.loop-one-test.true c.one-item.is
    (sym c.if-not-follows.true ∙ c.follows.ensures) c.loop-one.invariant

pub returns : goal.returns
returns c = file_end c.loop-one.file c.args.kept.now c.loop-one.one-index _ c.loop-one-test.false c.loop-one.invariant
