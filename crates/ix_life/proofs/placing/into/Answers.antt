use Rattle.std.proofs.Common.{sym, ◌∙◌, w64}
use mir.Val.{SFits}
use Rattle.std.proofs.lemmas.Int.{to_z-of_z}
use Rattle.ix_life.proofs.LeastLemmas.{passed, failed, at_end}
use Rattle.ix_life.proofs.placing.into.Goals as goal
use Rattle.ix_life.proofs.placing.into.Goals.{then-takes, else-takes}

pub loop-i-preserved : goal.loop-i-preserved
loop-i-preserved c =
    elim c.if-takes.branch [
      | then-takes w ↦ rw w.best-is (passed _ _ _ _ _ _ c.loop-i-test.true (sym c.takes.ensures
          ∙ w.if-takes.true) _ w.by_id.ensures _ c.loop-i.invariant)
      | else-takes w ↦ rw w.best-is (failed _ _ _ _ _ _ c.loop-i-test.true (sym c.takes.ensures ∙ w.if-takes.false) _ c.loop-i.invariant)
    ]

pub returns : goal.returns
returns c =
    let f : SFits w64 c.args.time = c.ranges.time in
    at_end _ _ _ _ _ c.loop-i-test.false _ (simp to_z-of_z at c.loop-i.invariant)
