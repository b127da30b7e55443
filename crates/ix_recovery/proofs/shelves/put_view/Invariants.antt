use Rattle.ix_recovery.specs.Putting.{IsPut, bucket_item}
use Rattle.ix_recovery.proofs.shelves.put_view.Given as goal

abbrev pub invariant-loop-bucket : goal.invariant-loop-bucket
invariant-loop-bucket l = IsPut (bucket_item l.view.name) l.view.buckets l.bucket-index l.initial.said l.said
