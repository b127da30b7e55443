use Rattle.std.proofs.Common.{◌≡◌, ◌≤◌, ◌-◌, Some}
use Rattle.ix_bucket.specs.Ahead.{IsCurrent}
use Rattle.ix_disk.specs.Image.{Image, bytes_in, Stays}
use Rattle.ix_disk.specs.Moments.{ImagesStep}
use Rattle.ix_export.proofs.Progress.{HasRead}
use Rattle.ix_export.proofs.export.Export.put_bucket.Given as goal

abbrev pub invariant-loop-at : goal.invariant-loop-at
invariant-loop-at g l = record {
  within : l.at ≤ l.bucket.bytes;
  read : (image : Image) → g.D.Disk.seen l.fn.disk ≡ Some image → IsCurrent g.D.Disk l.fn.self.reader l.fn.disk →
      HasRead l.fn.self.writer.range l.at (bytes_in image l.bucket.file) (g.W.Sink.given l.fn.out) l.fn.self.writer.count
      (g.W.Sink.given l.out) l.self.writer.count;
  range : l.self.writer.range ≡ l.fn.self.writer.range;
  current : IsCurrent g.D.Disk l.fn.self.reader l.fn.disk → IsCurrent g.D.Disk l.self.reader l.disk;
  same : g.D.Disk.seen l.disk ≡ g.D.Disk.seen l.fn.disk;
  later : g.D.Disk.faults l.fn.disk ≤ g.D.Disk.faults l.disk;
  grown : g.W.Sink.faults l.fn.out ≤ g.W.Sink.faults l.out;
  images : ImagesStep g.D.Disk l.fn.disk l.disk Stays;
}

abbrev pub decreases-loop-at : goal.decreases-loop-at
decreases-loop-at g l = l.bucket.bytes - l.at
