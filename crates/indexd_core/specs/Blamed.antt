-- Why a run ends with `Damaged` or `Full`, whatever the disk held at its start.
use Rattle.std.specs.Prelude.{◌≡◌, ◌≤◌, ◌⊎◌, ℕ, List}
use Rattle.ix_base.specs.declared.files.File.{File}
use Rattle.ix_disk.specs.declared.disk.Disk.{Ghosts}
use Rattle.ix_recovery.specs.Recalled.{GivesNone}
use Rattle.ix_replay.specs.Fits.{fits}
use Rattle.indexd_run.specs.Blamed.{HasMounted, IsBadStart, ReadsBad}
use Rattle.indexd_run.specs.Shortened.{HasHadItsRuns}
use Rattle.indexd_core.specs.Sides.{Side}
use Rattle.indexd_core.specs.Stored.{damaged_line, first_log}
use Rattle.indexd_core.specs.Texts.{Said}

-- The line stands at the end of the output; or a front of it, where the output has failed.
pub record EndsWith (line : List ℕ) (output output' : Side) : Type 0 where
  pub before : Side
  pub later : output.faults ≤ before.faults
  pub said : Said line before output'

-- Why a run calls a file damaged at a place. It was so at the start, as the disk read, and nothing
-- was mounted; or a store was mounted, and as the disk reads at the exit the file ends there, or no
-- record of a bucket stands there; or what the mounted store has in memory contradicts itself, which
-- is told as damage of the first log at 0.
pub data IsDamaged {D : Type 0} (d : Ghosts D) (file : File) (at : ℕ) (disk disk' : D) : Type 0 where
  at_start : IsBadStart d fits GivesNone disk file at → IsDamaged d file at disk disk'
  mounted : HasMounted d fits disk → ReadsBad d disk' file at → IsDamaged d file at disk disk'
  contradicted : HasMounted d fits disk → file ≡ first_log → at ≡ 0 → IsDamaged d file at disk disk'

-- The line at the end of the output names a file and a place, and that file is damaged there.
pub record NamesDamage {D : Type 0} (d : Ghosts D) (disk disk' : D) (output output' : Side) : Type 0 where
  pub file : File
  pub at : ℕ
  pub line : EndsWith (damaged_line file at) output output'
  pub damaged : IsDamaged d file at disk disk'

-- As the disk read at the start, the store has had its last run, so that nothing was mounted; or a
-- store was mounted.
abbrev pub IsFilled : {D : Type 0} → Ghosts D → D → Type 0
IsFilled d disk = HasHadItsRuns d fits disk ⊎ HasMounted d fits disk
