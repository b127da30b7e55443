use Rattle.std.proofs.Common.{◌≡◌, ◌≤◌, Some, take}
use Rattle.ix_bucket.specs.Ahead.{IsCurrent}
use Rattle.ix_disk.specs.Image.{Image, Stays}
use Rattle.ix_disk.specs.Moments.{ImagesStep}
use Rattle.ix_export.proofs.Progress.{HasDone}
use Rattle.ix_export.proofs.exporting.export_buckets.Given as goal

abbrev pub invariant-loop-bucket : goal.invariant-loop-bucket
invariant-loop-bucket g l = record {
  done : (image : Image) → g.D.Disk.seen l.fn.disk ≡ Some image →
      HasDone l.range image (take l.bucket-index l.buckets) (g.W.Sink.given l.fn.out) 0 (g.W.Sink.given l.out) l.export.writer.count;
  range : l.export.writer.range ≡ l.range;
  current : IsCurrent g.D.Disk l.export.reader l.disk;
  same : g.D.Disk.seen l.disk ≡ g.D.Disk.seen l.fn.disk;
  later : g.D.Disk.faults l.fn.disk ≤ g.D.Disk.faults l.disk;
  grown : g.W.Sink.faults l.fn.out ≤ g.W.Sink.faults l.out;
  images : ImagesStep g.D.Disk l.fn.disk l.disk Stays;
}
