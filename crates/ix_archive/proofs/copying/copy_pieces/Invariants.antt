use Rattle.std.proofs.Common.{◌≤◌, ◌-◌}
use Rattle.ix_base.specs.Told.{Told}
use Rattle.ix_disk.specs.Image.{Apart}
use Rattle.ix_disk.specs.Moments.{ImagesStep}
use Rattle.ix_archive.specs.Copies.{Moves}
use Rattle.ix_archive.proofs.copying.copy_pieces.Given as goal

abbrev pub invariant-loop-at : goal.invariant-loop-at
invariant-loop-at g l = record {
  within : l.at ≤ l.len;
  moved : Told (Moves l.from l.to 0 l.at) (g.D.Disk.seen l.fn.disk) (g.D.Disk.seen l.disk);
  seen : Told (Apart l.to) (g.D.Disk.seen l.fn.disk) (g.D.Disk.seen l.disk);
  images : ImagesStep g.D.Disk l.fn.disk l.disk (Apart l.to);
  later : g.D.Disk.faults l.fn.disk ≤ g.D.Disk.faults l.disk;
}

abbrev pub decreases-loop-at : goal.decreases-loop-at
decreases-loop-at g l = l.len - l.at
