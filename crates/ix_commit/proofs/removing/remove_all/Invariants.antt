use Rattle.std.proofs.Common.{◌≤◌, take}
use Rattle.std.specs.Prelude.{All}
use Rattle.ix_base.specs.Told.{Told}
use Rattle.ix_disk.specs.Moments.{ImagesStep}
use Rattle.ix_commit.specs.Contents.{Contents, Spares, IsFree, KeepsLogs, filling}
use Rattle.ix_commit.specs.Reads.{Removing, ReadsNone}
use Rattle.ix_commit.proofs.removing.remove_all.Given as goal

abbrev pub invariant-loop-file : goal.invariant-loop-file
invariant-loop-file g l = record {
  run : (contents : Contents) → All (IsFree l.current contents) l.files →
      ImagesStep g.D.Disk l.fn.disk l.disk (Spares l.current (filling contents));
  logs : ImagesStep g.D.Disk l.fn.disk l.disk (KeepsLogs l.current);
  seen : Told Removing (g.D.Disk.seen l.fn.disk) (g.D.Disk.seen l.disk);
  gone : ReadsNone g.D.Disk l.disk l.current (take l.file-index l.files);
  later : g.D.Disk.faults l.fn.disk ≤ g.D.Disk.faults l.disk;
}
