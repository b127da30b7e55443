use Rattle.std.proofs.Common.{◌≡◌, drop}
use Rattle.ix_life.specs.Limits.{limits_in}
use Rattle.ix_life.proofs.sets.find.Given as goal

abbrev pub invariant-loop-x : goal.invariant-loop-x
invariant-loop-x l = limits_in l.index (drop l.x-index l.indexes) ≡ limits_in l.index l.indexes
