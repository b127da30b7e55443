-- A file that only grows, and runs that monitor it: what each leaves of it, wherever it is stopped.
use Rattle.std.specs.Prelude.{◌≡◌, ◌⊎◌, ℕ, Bool, List, take, Option, Some, Result}
use Rattle.ix_base.specs.Clocks.{Moments}
use Rattle.ix_base.specs.Told.{IsFrontOf}
use Rattle.ix_fs.specs.declared.trees.TreeFile.{TreeFile}
use Rattle.ix_fs.specs.Trees.{bytes_at}
use Rattle.ix_disk.specs.Moments.{Always}
use Rattle.ix_disk.specs.declared.disk.Disk.{Ghosts}
use Rattle.ix_manifest.specs.Book.{NamedItems}
use Rattle.ix_monitor.specs.declared.inputs.Input.{Input}
use Rattle.ix_model.specs.declared.commands.Config.{Config}
use Rattle.ix_model.specs.declared.commands.TimedCommand.{TimedCommand}
use Rattle.ix_watch.specs.Watching.{IsWatched, HasRead}
use Rattle.indexd_run.specs.Opened.{Past, Course, StandsFor, Passes, WhenOpen, HasRun, HasStopped}
use Rattle.indexd_run.specs.declared.stop.Stop.{Stop}
use Rattle.indexd_monitor.specs.Monitored.{HasMonitored}

-- Of this history each first part has read the first bytes of the file, each once and in order, as
-- many as is kept that were read; and the history goes on with the file.
pub record ReadsOn (past : Past) (file path : List ℕ) (history : List TimedCommand) : Type 0 where
  pub watched : IsWatched file path history
  pub read : (n : ℕ) → HasRead file path past.choose (take n history)

-- Every image since the start of a run stands for a first part of such a history: up to the mount of
-- the one that was there, and from then on of the one that the run leaves.
pub record HasReadOn {D : Type 0} (d : Ghosts D) (fits : NamedItems → Type 0) (past : Past) (file path : List ℕ) (before disk : D) : Type 0
  where
    pub was : ReadsOn past file path past.history
    pub now : List TimedCommand
    pub new_run : ℕ
    pub count : ℕ
    pub reads : ReadsOn past file path now
    pub passes : Passes d fits past now new_run count before disk

-- or nothing was mounted, and each stands for one of what was there
pub record HasReadNone {D : Type 0} (d : Ghosts D) (fits : NamedItems → Type 0) (past : Past) (file path : List ℕ)
    (before disk : D) : Type 0 where
  pub was : ReadsOn past file path past.history
  pub stood : Always d before disk (StandsFor fits past)

-- A file of a tree, that was a first part of itself before.
pub record Grows (files : List TreeFile) (path before file : List ℕ) : Type 0 where
  pub told : bytes_at files path ≡ Some file
  pub front : IsFrontOf before file

-- Behind a history that goes on with the file as it was, a run over a tree in which it has become
-- longer, or has stayed as it was, leaves one that goes on with it: whether the run is done, stops,
-- or the disk fails. So may the next run begin.
abbrev pub RunsReadOn : {D : Type 0} → Ghosts D → (TimedCommand → Type 0) → (NamedItems → Type 0) → Type 0
RunsReadOn {D} d takes fits =
    (past : Past) (config : Config) (ahead ahead' : Option Moments) (files : List TreeFile) (inputs : List Input) (close lost : Bool)
    (result : Result Unit Stop) (out out' : Option (List ℕ)) (path before file : List ℕ) (start exit : D) →
    IsWatched before path past.history → Grows files path before file →
    HasRun lost d takes fits past (WhenOpen past.choose config ahead
    (HasMonitored past.choose (Some files) inputs close result ahead' out out')) start exit →
    HasReadOn d fits past file path start exit

-- The same of one that stops, also before it has given anything.
abbrev pub StopsReadOn : {D : Type 0} → Ghosts D → (TimedCommand → Type 0) → (NamedItems → Type 0) → Type 0
StopsReadOn {D} d takes fits =
    (past : Past) (run : Course D) (stop : Stop) (files : List TreeFile) (inputs : List Input) (close : Bool) (result : Result Unit Stop)
    (out out' : Option (List ℕ)) (path before file : List ℕ) →
    IsWatched before path past.history → Grows files path before file →
    HasStopped stop d takes fits past run (out' ≡ out)
    (HasMonitored past.choose (Some files) inputs close result run.ahead' out out') →
    HasReadNone d fits past file path run.before run.disk ⊎ HasReadOn d fits past file path run.before run.disk
