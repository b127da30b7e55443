use Rattle.std.proofs.Common.{◌≡◌, ◌≢◌, ◌≤◌, take}
use Rattle.std.specs.Prelude.{All}
use Rattle.ix_base.specs.declared.files.Area.TheVariants.{Meta}
use Rattle.ix_base.specs.declared.files.File.{File}
use Rattle.ix_base.specs.Told.{Told}
use Rattle.ix_disk.specs.Moments.{ImagesStep, Holds}
use Rattle.ix_commit.specs.Contents.{Filling, BeginsWith, HoldsFilling, Spares, Keeping}
use Rattle.ix_commit.specs.Parts.{AreParts, file_in}
use Rattle.ix_commit.specs.declared.staged_append.StagedAppend.{StagedAppend}
use Rattle.ix_commit.proofs.staged_append.settle_all.Given as goal

abbrev pub invariant-loop-part : goal.invariant-loop-part
invariant-loop-part g l = record {
  run : (log : File) (old new : Filling) → log.area ≡ Meta → AreParts old new l.parts →
      ImagesStep g.D.Disk l.fn.disk l.disk (Spares log old);
  done : (log : File) (old new : Filling) → log.area ≡ Meta → AreParts old new l.parts → HoldsFilling g.D.Disk l.fn.disk old →
      All (λ (p : StagedAppend). Holds g.D.Disk l.disk (file_in p) (BeginsWith (new (file_in p)))) (take l.part-index l.parts);
  logs : (log : File) → log.area ≡ Meta → ImagesStep g.D.Disk l.fn.disk l.disk (Keeping log);
  seen : (other : File) → All (λ (p : StagedAppend). other ≢ file_in p) l.parts →
      Told (Keeping other) (g.D.Disk.seen l.fn.disk) (g.D.Disk.seen l.disk);
  later : g.D.Disk.faults l.fn.disk ≤ g.D.Disk.faults l.disk;
}
