use Rattle.std.proofs.Common.{◌≡◌, ◌≤◌, ◌-◌}
use Rattle.ix_disk.specs.Image.{Stays}
use Rattle.ix_disk.specs.Moments.{ImagesStep}
use Rattle.ix_log.specs.Log.{IsMounted, IsReading, file_of}
use Rattle.ix_manifest.specs.Root.{roots}
use Rattle.ix_manifest.proofs.root.read_root.Given as goal

abbrev pub invariant-loop-number : goal.invariant-loop-number
invariant-loop-number g l = record {
  least : 1 ≤ l.number;
  reading : IsReading g.D.Disk l.log l.disk (roots (l.number - 1));
  mounted : IsMounted g.D.Disk l.log l.disk;
  file : file_of l.log ≡ file_of l.fn.log;
  same : g.D.Disk.seen l.disk ≡ g.D.Disk.seen l.fn.disk;
  images : ImagesStep g.D.Disk l.fn.disk l.disk Stays;
  later : g.D.Disk.faults l.fn.disk ≤ g.D.Disk.faults l.disk;
}
