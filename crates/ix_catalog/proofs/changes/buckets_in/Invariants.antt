use Rattle.std.proofs.Common.{◌≡◌, drop}
use Rattle.ix_catalog.specs.Shelves.{buckets_in}
use Rattle.ix_catalog.proofs.changes.buckets_in.Given as goal

abbrev pub invariant-loop-view : goal.invariant-loop-view
invariant-loop-view l = buckets_in l.index (drop l.view-index l.indexes) ≡ buckets_in l.index l.indexes
