use Rattle.std.proofs.Common.{◌≡◌, ◌++◌, map, take, drop, length}
use Rattle.ix_catalog.specs.Buckets as buckets
use Rattle.ix_catalog.proofs.rolling.roll_buckets.Given as goal

abbrev pub invariant-loop-at : goal.invariant-loop-at
invariant-loop-at l = record {
  count : length l.list ≡ length l.initial.list;
  rolled : l.list ≡ map buckets.rolled_if_open (take l.at l.initial.list) ++ drop l.at l.initial.list;
}
