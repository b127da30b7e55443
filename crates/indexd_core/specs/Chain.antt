-- How runs follow each other over one disk.
use Rattle.std.specs.Prelude.{◌≡◌, ◌≤◌, ◌⊎◌, ℕ, Bool, true, false, List, [], ◌∷◌, length, take, Some}
use Rattle.ix_disk.specs.Image.{Image}
use Rattle.ix_disk.specs.Moments.{Always}
use Rattle.ix_disk.specs.declared.disk.Disk.{Ghosts}
use Rattle.ix_state.specs.Configs.{IsChooser}
use Rattle.ix_state.specs.Taken.{AreGiven}
use Rattle.ix_model.specs.declared.commands.TimedCommand.{TimedCommand}
use Rattle.ix_replay.specs.Fits.{fits}
use Rattle.ix_sessions.specs.Feeding.{Start, Turn, known}
use Rattle.ix_run.specs.Running.{StandsFrom}
use Rattle.indexd_run.specs.Opened.{Past, past_of, StandsFor, Begins, Passes}
use Rattle.indexd_core.specs.declared.status.Status.{Status}
use Rattle.indexd_core.specs.declared.status.Status.TheVariants.{Done, Memory, Usage, Configuration, Input, DiskFault, Damaged, Output}
use Rattle.indexd_core.specs.declared.status.Status.TheVariants.{ListenerFault, NotFound, TooManyChannels, Unreadable, Endless, Full}
use Rattle.indexd_core.specs.declared.status.Status.TheVariants.{InUse}

-- The premise of a run, for which `FromStart` asks: every image of the disk stands for a first part
-- of one history of commands that may be given, with the first so many of them at least, and for
-- this run or a later one; and the disk tells what it reads.
pub record MayRun {D : Type 0} (d : Ghosts D) (past : Past) (disk : D) : Type 0 where
  pub chooser : IsChooser past.choose
  pub given : AreGiven past.history
  pub begins : Begins d fits past disk
  pub image : Image
  pub tells : d.seen disk ≡ Some image

-- What a run leaves. Unmounted: every image since its start stands for a first part of what was
-- there, and for no earlier run. Mounted: so it does up to the mount, and from then on for one of
-- what was mounted and accepted since, with all that was mounted, and for the number of this run or
-- a later one.
pub data Leaves {D : Type 0} (d : Ghosts D) (past : Past) (before disk : D) : Type 0 where
  unmounted : Always d before disk (StandsFor fits past) → Leaves d past before disk
  mounted : (new_run count : ℕ) (now : List TimedCommand) → past.least ≤ count → AreGiven now →
      Passes d fits past now new_run count before disk → Leaves d past before disk

-- all that a disk may leave was left by another at one of its moments between these two
abbrev pub IsLeftOf : {D E : Type 0} → Ghosts D → D → D → Ghosts E → E → Type 0
IsLeftOf d old new e disk = (image : Image) → e.may_leave disk image → d.left_since new (d.moment old) image

-- A stop of a run: all that the next disk may leave was left at moments up to the mount, or at
-- moments from it on. So it is where the power was lost, where the process was killed, and where
-- the run has ended.
abbrev pub IsStopOf : {D E : Type 0} (d : Ghosts D) (past : Past) (before disk : D) → Leaves d past before disk → Ghosts E → E → Type 0
IsStopOf d past before disk (unmounted stood) e later = IsLeftOf d before disk e later
IsStopOf d past before disk (mounted new_run count now least given passes) e later =
    IsLeftOf d before passes.mounted e later ⊎ IsLeftOf d passes.mounted disk e later

-- The next run may begin: over some history that begins with what was sure to be there before, and
-- over no earlier run.
pub record MayGoOn {E : Type 0} (e : Ghosts E) (past : Past) (later : E) : Type 0 where
  pub next : List TimedCommand
  pub n : ℕ
  pub least_run : ℕ
  pub least : past.least ≤ n
  pub no_earlier : past.run ≤ least_run
  pub first : take past.least next ≡ take past.least past.history
  pub may_run : MayRun e (past_of past.choose next least_run n) later

-- ---- what a task or an input has committed

-- Whether a run that ends so may have lost what it accepted last: the disk was at fault, or what it
-- keeps is damaged.
abbrev pub may_lose : Status → Bool
may_lose Done = false
may_lose Memory = false
may_lose Usage = false
may_lose Configuration = false
may_lose Input = false
may_lose DiskFault = true
may_lose Damaged = true
may_lose Output = false
may_lose ListenerFault = false
may_lose NotFound = false
may_lose TooManyChannels = false
may_lose Unreadable = false
may_lose Endless = false
may_lose Full = false
may_lose InUse = false

-- A run has mounted and given all of this history, and from the disk behind its last commit on
-- every image has all of it.
pub record KeepsAll {D : Type 0} (d : Ghosts D) (past : Past) (before disk : D) : Type 0 where
  pub new_run : ℕ
  pub count : ℕ
  pub now : List TimedCommand
  pub given : AreGiven now
  pub passes : Passes d fits past now new_run count before disk
  pub committed : D
  pub lasts : StandsFrom d fits new_run past.choose now (length now) committed disk

-- So it is of a run that ends with this status; or it is not done, and has mounted nothing.
abbrev pub EndsKept : Status → {D : Type 0} → Ghosts D → Past → D → D → Type 0
EndsKept status d past before disk =
    KeepsAll d past before disk ⊎ ((status ≡ Done → ⊥) × Always d before disk (StandsFor fits past))

-- ---- what was known as committed

-- Wherever a run was stopped from the disk behind one of these turns on, the next one may begin over
-- the history of this run, with all of it that was known as committed behind that turn, and over no
-- earlier run.
abbrev pub GoesOnBehindEach : {D E : Type 0} → Ghosts D → Ghosts E → Start D → List TimedCommand → D → E → List (Turn D) → Type 0
GoesOnBehindEach d e s now disk later [] = Unit {0}
GoesOnBehindEach d e s now disk later (turn ∷ earlier) =
    (IsLeftOf d turn.disk disk e later → MayRun e (past_of s.choose now s.run (known s (turn ∷ earlier))) later)
    × GoesOnBehindEach d e s now disk later earlier

-- So it is behind each of these turns; and where the run was stopped at its exit, the next one may
-- begin with all of its history, if all was accepted for good.
pub record KeepsKnown {D E : Type 0} (d : Ghosts D) (e : Ghosts E) (s : Start D) (turns : List (Turn D)) (whole : Type 0)
    (now : List TimedCommand) (disk : D) (later : E) : Type 0 where
  pub behind_each : GoesOnBehindEach d e s now disk later turns
  pub exit : whole → IsLeftOf d disk disk e later → MayRun e (past_of s.choose now s.run (length now)) later
