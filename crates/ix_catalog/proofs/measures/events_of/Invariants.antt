use Rattle.std.proofs.Common.{◌≡◌, ◌≤◌, ◌*◌, ◌^◌, take}
use Rattle.std.specs.List.{sum_by}
use Rattle.ix_items.specs.declared.items.Bucket.{Bucket}
use Rattle.ix_catalog.proofs.measures.events_of.Given as goal

abbrev pub invariant-loop-bucket : goal.invariant-loop-bucket
invariant-loop-bucket l = (l.total ≡ sum_by (λ (x : Bucket). x.count) (take l.bucket-index l.buckets)) × (l.total ≤ 2 ^ 64 * l.bucket-index)
