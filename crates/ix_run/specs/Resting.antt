-- A store of which all is committed, and how long its log is.
use Rattle.std.specs.Prelude.{◌≡◌, ℕ, Bool, true, false, Some, Result, Ok, Err}
use Rattle.ix_disk.specs.Image.{Image, bytes_in}
use Rattle.ix_disk.specs.declared.disk.Disk.{Ghosts}
use Rattle.ix_log.specs.Log.{HasBodies}
use Rattle.ix_manifest.specs.Root.{roots, current, log_file}
use Rattle.ix_manifest.specs.declared.fault.CheckpointFault.{CheckpointFault}
use Rattle.ix_manifest.specs.declared.fault.CheckpointFault.TheVariants as faults
use Rattle.ix_commit.specs.Shortening.{IsLongLog}
use Rattle.ix_commit.specs.Snapshot.{LogsAtEnd, NothingStaged, KnowsLogLength}
use Rattle.ix_commit.specs.declared.committer.Committer.{Committer}

-- Nothing is staged, the logs stand at the ends of their bodies, and the committer knows how long
-- the current one is.
pub record CheckpointReady {D : Type 0} (g : Ghosts D) (committer : Committer) (disk : D) : Type 0 where
  pub over : LogsAtEnd g committer disk
  pub idle : NothingStaged committer
  pub measured : KnowsLogLength g committer disk

-- The log that the root log of an image names is long.
pub record HasLongLog (image : Image) : Type 0 where
  pub checkpoints : ℕ
  pub in_root : HasBodies (roots checkpoints) (bytes_in image (log_file 0))
  pub long : IsLongLog (bytes_in image (current checkpoints))

-- as the disk reads, the current log is not long
abbrev pub ReadsShort : {D : Type 0} → Ghosts D → D → Type 0
ReadsShort g disk = (image : Image) → g.seen disk ≡ Some image → HasLongLog image → ⊥

-- whether the disk failed at a checkpoint, and the store is closed
abbrev pub is_failed : Result Unit CheckpointFault → Bool
is_failed (Ok done) = false
is_failed (Err faults.Disk) = true
is_failed (Err faults.NoMemory) = false
