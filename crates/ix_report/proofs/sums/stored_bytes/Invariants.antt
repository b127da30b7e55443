use Rattle.std.proofs.Common.{◌≡◌, ◌≤◌, ◌*◌, ◌^◌, take}
use Rattle.ix_report.specs.Sums as defs
use Rattle.ix_report.proofs.sums.stored_bytes.Given as goal

abbrev pub invariant-loop-bucket : goal.invariant-loop-bucket
invariant-loop-bucket l = record {
  sum : l.total ≡ defs.stored_bytes (take l.bucket-index l.buckets);
  short : l.total ≤ l.bucket-index * 2 ^ 64;
}
