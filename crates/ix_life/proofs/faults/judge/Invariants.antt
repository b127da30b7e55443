use Rattle.std.proofs.Common.{◌≡◌, drop}
use Rattle.ix_life.specs.Limits.{first_of, first_fault}
use Rattle.ix_life.proofs.faults.judge.Given as goal

abbrev pub invariant-loop-at : goal.invariant-loop-at
invariant-loop-at l = first_of l.indexes (drop l.at l.indexes) ≡ first_fault l.indexes
