use Rattle.std.proofs.Common.{IsFalse}
use Rattle.tests_pipeline.proofs.merge.add_all.Given as goal

abbrev pub invariant-loop-count : goal.invariant-loop-count
invariant-loop-count l = IsFalse l.merge.broken

abbrev pub invariant-loop : goal.invariant-loop
invariant-loop l = IsFalse l.merge.broken
