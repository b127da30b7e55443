use Rattle.std.proofs.Common.{◌≡◌, ◌≤◌, ◌-◌, List, Some}
use Rattle.ix_base.specs.declared.events.Event.{Event}
use Rattle.ix_disk.specs.Image.{Image, bytes_in, Stays}
use Rattle.ix_disk.specs.Moments.{ImagesStep}
use Rattle.ix_bucket.specs.Ahead.{IsCurrent}
use Rattle.ix_bucket.specs.Count.{HasRecords}
use Rattle.ix_bucket.proofs.Left.{IsLeft}
use Rattle.ix_bucket.proofs.counting.count_records.Given as goal

abbrev pub invariant-loop-at : goal.invariant-loop-at
invariant-loop-at g l = record {
  within : l.at ≤ l.until;
  few : l.count ≤ l.at;
  left : (events : List Event) (image : Image) → g.D.Disk.seen l.fn.disk ≡ Some image → IsCurrent g.D.Disk l.fn.reader l.fn.disk →
      HasRecords events l.until (bytes_in image l.file) → IsLeft events l.count l.at l.until (bytes_in image l.file);
  current : IsCurrent g.D.Disk l.fn.reader l.fn.disk → IsCurrent g.D.Disk l.reader l.disk;
  same : g.D.Disk.seen l.disk ≡ g.D.Disk.seen l.fn.disk;
  later : g.D.Disk.faults l.fn.disk ≤ g.D.Disk.faults l.disk;
  images : ImagesStep g.D.Disk l.fn.disk l.disk Stays;
}

abbrev pub decreases-loop-at : goal.decreases-loop-at
decreases-loop-at g l = l.until - l.at
