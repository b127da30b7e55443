use Rattle.std.proofs.Common.{◌≡◌, map, take, drop, ◌++◌}
use Rattle.std.specs.List.{AllByRecursion}
use Rattle.ix_catalog.specs.Filling.{at_id, grown}
use Rattle.ix_catalog.specs.Numbers.{KeepsBucket}
use Rattle.ix_catalog.proofs.buckets.grow_id.Given as goal

abbrev pub invariant-loop-i : goal.invariant-loop-i
invariant-loop-i l = record {
  done : l.buckets ≡ map (at_id l.id (grown l.limits l.growth)) (take l.i l.fn.buckets) ++ drop l.i l.fn.buckets;
  kept : AllByRecursion KeepsBucket l.buckets;
}
