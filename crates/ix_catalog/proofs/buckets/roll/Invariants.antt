use Rattle.std.proofs.Common.{◌≡◌, map, take, drop, ◌++◌}
use Rattle.ix_catalog.specs.Buckets.{rolled}
use Rattle.ix_catalog.specs.Filling.{at_id}
use Rattle.ix_catalog.proofs.buckets.roll.Given as goal

abbrev pub invariant-loop-i : goal.invariant-loop-i
invariant-loop-i l = l.buckets ≡ map (at_id l.id rolled) (take l.i l.fn.buckets) ++ drop l.i l.fn.buckets
