use Rattle.std.proofs.Common.{sym, ◌∙◌}
use Rattle.ix_life.proofs.LeastLemmas.{passed, failed, at_end}
use Rattle.ix_life.proofs.placing.least_used.Goals as goal
use Rattle.ix_life.proofs.placing.least_used.Goals.{then-is_open, else-is_open}

pub loop-i-preserved : goal.loop-i-preserved
loop-i-preserved c =
    elim c.if-is_open.branch [
      | then-is_open w ↦ rw w.best-is (passed _ _ _ _ _ _ c.loop-i-test.true (sym c.is_open.ensures
          ∙ w.if-is_open.true) _ w.by_used.ensures _ c.loop-i.invariant)
      | else-is_open w ↦ rw w.best-is (failed _ _ _ _ _ _ c.loop-i-test.true (sym c.is_open.ensures
          ∙ w.if-is_open.false) _ c.loop-i.invariant)
    ]

pub returns : goal.returns
returns c = at_end _ _ _ _ _ c.loop-i-test.false _ c.loop-i.invariant
