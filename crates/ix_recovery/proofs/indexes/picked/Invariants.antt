use Rattle.std.proofs.Common.{◌≡◌, take}
use Rattle.std.specs.List.{filter_map}
use Rattle.ix_recovery.specs.Recalled.{bucket_of}
use Rattle.ix_recovery.proofs.indexes.picked.Given as goal

abbrev pub invariant-loop-one : goal.invariant-loop-one
invariant-loop-one l = l.buckets.items ≡ filter_map (bucket_of l.index) (take l.one-index l.placed)
