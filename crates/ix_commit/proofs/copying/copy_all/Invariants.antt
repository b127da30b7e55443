use Rattle.std.proofs.Common.{◌≡◌, ◌≢◌, ◌≤◌, take}
use Rattle.std.specs.Prelude.{All}
use Rattle.ix_base.specs.declared.files.Area.TheVariants.{Meta}
use Rattle.ix_base.specs.declared.files.File.{File}
use Rattle.ix_base.specs.Told.{Told}
use Rattle.ix_disk.specs.Moments.{ImagesStep}
use Rattle.ix_commit.specs.Contents.{Filling, HoldsFilling, Spares, Keeping}
use Rattle.ix_commit.specs.Copies.{AreCopies, after_copies, target}
use Rattle.ix_commit.specs.declared.file_copy.FileCopy.{FileCopy}
use Rattle.ix_commit.proofs.copying.copy_all.Given as goal

abbrev pub invariant-loop-one : goal.invariant-loop-one
invariant-loop-one g l = record {
  run : (log : File) (old now : Filling) → log.area ≡ Meta → AreCopies old now l.copies →
      ImagesStep g.D.Disk l.fn.disk l.disk (Spares log old);
  done : (old now : Filling) → AreCopies old now l.copies → HoldsFilling g.D.Disk l.fn.disk now →
      HoldsFilling g.D.Disk l.disk (after_copies (take l.one-index l.copies) now);
  logs : (log : File) → log.area ≡ Meta → ImagesStep g.D.Disk l.fn.disk l.disk (Keeping log);
  seen : (other : File) → All (λ (x : FileCopy). other ≢ target x) l.copies →
      Told (Keeping other) (g.D.Disk.seen l.fn.disk) (g.D.Disk.seen l.disk);
  later : g.D.Disk.faults l.fn.disk ≤ g.D.Disk.faults l.disk;
}
