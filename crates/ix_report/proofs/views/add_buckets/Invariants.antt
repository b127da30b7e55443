use Rattle.std.proofs.Common.{◌≡◌, ◌++◌, take}
use Rattle.std.specs.List.{flat_map}
use Rattle.ix_report.specs.Listing as defs
use Rattle.ix_report.proofs.views.add_buckets.Given as goal

abbrev pub invariant-loop-bucket : goal.invariant-loop-bucket
invariant-loop-bucket l = l.text ≡ l.initial.text ++ flat_map (defs.bucket_row l.index) (take l.bucket-index l.buckets)
