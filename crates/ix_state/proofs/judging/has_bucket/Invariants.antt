use Rattle.std.proofs.Common.{◌≡◌, drop}
use Rattle.ix_catalog.specs.Shelves.{by_id}
use Rattle.ix_state.proofs.judging.has_bucket.Given as goal

abbrev pub invariant-loop-bucket : goal.invariant-loop-bucket
invariant-loop-bucket l = by_id l.id (drop l.bucket-index l.buckets) ≡ by_id l.id l.buckets
