-- A file that only grows, and passes over it: what they leave of it, however they end.
use Rattle.std.specs.Prelude.{◌≡◌, ℕ, Bool, List, take, Option, Some, Result}
use Rattle.std.specs.List.{AllByRecursion}
use Rattle.ix_base.specs.Clocks.{Moments}
use Rattle.ix_base.specs.Told.{IsFrontOf}
use Rattle.ix_fs.specs.declared.trees.TreeFile.{TreeFile}
use Rattle.ix_fs.specs.Trees.{bytes_at}
use Rattle.ix_disk.specs.declared.disk.Disk.{Ghosts}
use Rattle.ix_manifest.specs.Book.{NamedItems}
use Rattle.ix_monitor.specs.declared.watched.Watched.{Watched}
use Rattle.ix_model.specs.Given.{Chooser}
use Rattle.ix_model.specs.declared.commands.TimedCommand.{TimedCommand}
use Rattle.ix_store.specs.Holding.{Represents}
use Rattle.ix_store.specs.declared.store.Store.{Store}
use Rattle.ix_run.specs.Running.{AlwaysRecoverable}
use Rattle.ix_watch.specs.Watching.{IsWatched, HasRead}
use Rattle.ix_pass.specs.Passing.{VisitsAll, IsPass}
use Rattle.ix_pass.specs.declared.fault.PassFault.{PassFault}
use Rattle.ix_pass.specs.Giving.{kind, change}

-- Every image since stands for a prefix of a history that goes on with the file, with all that was
-- committed before, and for this run or a later one; and each prefix of it has read the first bytes
-- of the file, each once and in order, as many as is kept that were read.
pub record HasGoneOn {D : Type 0} (d : Ghosts D) (fits : NamedItems →
    Type 0) (run : ℕ) (choose : Chooser) (file path : List ℕ) (k : ℕ) (before disk : D) : Type 0 where
  pub now : List TimedCommand
  pub watched : IsWatched file path now
  pub read : (n : ℕ) → HasRead file path choose (take n now)
  pub stood : AlwaysRecoverable d fits run choose now k before disk

-- So does a pass, behind a history that goes on with the file as it was, over a tree in which it
-- has become longer or has stayed as it was: whether it is done, stops, or the disk fails. The next
-- pass finds what it leaves.
abbrev pub PassesGoOn : {D : Type 0} → Ghosts D → {M : Type 0} → (Chooser → Type 0) → (TimedCommand → Type 0) → (NamedItems → Type 0) →
    (Chooser → List TimedCommand → M → Type 0) → Type 0
PassesGoOn {D} d {M} is_chooser takes fits holds =
    (choose : Chooser) (history : List TimedCommand) (base k : ℕ) (files : List TreeFile) (watched : List Watched) (close : Bool)
    (ahead ahead' : Option Moments) (was bytes path : List ℕ)
    (result : Result (List ℕ) PassFault) (old new : Store M) (before disk : D) →
    is_chooser choose → AllByRecursion takes history → Represents d fits holds choose history base k old before →
    VisitsAll result watched ahead ahead' (IsPass d (kind is_chooser takes fits holds) (Some files) close result
    (change old before new disk)) →
    IsWatched was path history → IsFrontOf was bytes → bytes_at files path ≡ Some bytes →
    HasGoneOn d fits old.run choose bytes path k before disk
