use Rattle.std.proofs.Common.{ℕ, ◌≤◌, length, drop}
use Rattle.ix_pikevm.specs.Acts.{AllKnown}
use Rattle.ix_pikevm.specs.Stepped.{Steps}
use Rattle.ix_pikevm.specs.Tests.{answers_to, Counts}
use Rattle.ix_pikevm.proofs.step.step.Given as goal

abbrev pub invariant-loop-i : goal.invariant-loop-i
invariant-loop-i g l =
    record {
      within : l.i ≤ length l.ready;
      steps : Steps l.code (answers_to l.tests.pattern.now.rows l.byte) (drop l.i l.ready) l.stack.items;
      counts : Counts l.tests l.fn.steps l.steps;
      known : (c : ℕ) → AllKnown (length l.code) c l.ready → AllKnown (length l.code) c l.stack.items;
    }

abbrev pub decreases-loop-i : goal.decreases-loop-i
decreases-loop-i g l = l.i
