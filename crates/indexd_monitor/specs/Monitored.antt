-- A pass over watched files, as a run over a store: which files were visited, what of their
-- commands was given, why no more, and what is written.
use Rattle.std.specs.Prelude.{◌≡◌, ℕ, Bool, true, false, List, [], ◌++◌, map, Option, IfSome, Result, Ok, Err}
use Rattle.std.specs.List.{AllByRecursion}
use Rattle.ix_base.specs.Clocks.{Moments}
use Rattle.ix_base.specs.Told.{HasWritten, HasBegun}
use Rattle.ix_fs.specs.declared.trees.TreeFault.{TreeFault}
use Rattle.ix_fs.specs.declared.trees.TreeFault.TheVariants as trees
use Rattle.ix_fs.specs.declared.trees.TreeFile.{TreeFile}
use Rattle.ix_monitor.specs.declared.inputs.Input.{Input}
use Rattle.ix_monitor.specs.declared.watched.Watched.{Watched}
use Rattle.ix_files.specs.Sought.{sought, IsFileOf}
use Rattle.ix_model.specs.Given.{Chooser}
use Rattle.ix_model.specs.declared.commands.TimedCommand.{TimedCommand}
use Rattle.ix_run.specs.Giving.{AreAllowed}
use Rattle.ix_watch.specs.Passes.{file_of, lines, HasPassed}
use Rattle.ix_pass.specs.declared.fault.PassFault.{PassFault}
use Rattle.ix_pass.specs.declared.fault.PassFault.TheVariants as passes
use Rattle.indexd_run.specs.Opened.{Doing, Giving, giving}
use Rattle.indexd_run.specs.Previews.{IsRefusedSo}
use Rattle.indexd_run.specs.Stops.{of_give, is_output}
use Rattle.indexd_run.specs.declared.stop.Stop.{Stop}
use Rattle.indexd_run.specs.declared.stop.Stop.TheVariants as stops

-- ---- why a run stops

-- a file or a folder that is not there is no fault
abbrev pub of_tree : TreeFault → Stop
of_tree trees.Failed = stops.Input
of_tree trees.Missing = stops.Input
of_tree trees.NoMemory = stops.Memory

abbrev pub of_pass : PassFault → Stop
of_pass (passes.Given fault) = of_give fault
of_pass passes.Input = stops.Input
of_pass passes.Memory = stops.Memory

-- whether all files were visited: where the run is done, or its text alone is not written
abbrev pub is_whole : {T : Type 0} → Result T Stop → Bool
is_whole (Ok done) = true
is_whole (Err stop) = is_output stop

-- Why no more commands are given than these, of which the next would be the first of the rest: the
-- store refuses it; or the tree has failed, and there are none. Disk and tree count their faults,
-- and memory may be short at any time. Where the text alone is not written each was allowed.
abbrev pub IsWhy : Chooser → ℕ → List TimedCommand → Stop → List TimedCommand → List TimedCommand → Type 0
IsWhy choose base begun stops.Memory given rest = Unit {0}
IsWhy choose base begun stops.Disk given rest = Unit {0}
IsWhy choose base begun (stops.Damaged file at) given rest = Unit {0}
IsWhy choose base begun stops.Inconsistent given rest = ⊥
IsWhy choose base begun stops.NotFound given rest = IsRefusedSo choose base begun stops.NotFound given rest
IsWhy choose base begun stops.TooManyChannels given rest = IsRefusedSo choose base begun stops.TooManyChannels given rest
IsWhy choose base begun stops.Full given rest = IsRefusedSo choose base begun stops.Full given rest
IsWhy choose base begun stops.Output given rest = AreAllowed choose base begun given
IsWhy choose base begun stops.Input given rest = rest ≡ []
IsWhy choose base begun stops.Endless given rest = ⊥

abbrev pub IsEnd : {T : Type 0} → Chooser → ℕ → List TimedCommand → Result T Stop → List TimedCommand → List TimedCommand → Type 0
IsEnd choose base begun (Ok done) given rest = AreAllowed choose base begun given
IsEnd choose base begun (Err stop) given rest = IsWhy choose base begun stop given rest

-- ---- which files

-- The first of all files are visited, or all of them.
pub record Visits (whole : Bool) (all visited : List Watched) : Type 0 where
  pub rest : List Watched
  pub all_are : all ≡ visited ++ rest
  pub every : whole ≡ true → rest ≡ []

-- ---- what is written

-- where the output fails a first part of the text is, and else at a stop nothing
abbrev pub WritesAt : Bool → List ℕ → Option (List ℕ) → Option (List ℕ) → Type 0
WritesAt true text out out' = HasBegun text out out'
WritesAt false text out out' = out' ≡ out

abbrev pub Writes : Result Unit Stop → Option (List ℕ) → Option (List ℕ) → List ℕ → Type 0
Writes (Ok done) out out' text = HasWritten text out out'
Writes (Err stop) out out' text = WritesAt (is_output stop) text out out'

-- the text that is to be written
abbrev pub HasText : Result (List ℕ) Stop → List ℕ → Type 0
HasText (Ok made) text = made ≡ text
HasText (Err stop) text = Unit {0}

-- ---- the whole

-- The files of the inputs were visited one behind the other, in their order, each a file that an
-- input gives; where the tree tells its files they are exactly those that the inputs have watched.
-- Of the commands of the visits these were given, at the moments that the clock told, and there is
-- a cause why no more. This is said of the lines of the visits.
pub record HasVisited {T : Type 0} (choose : Chooser) (files : Option (List TreeFile)) (inputs : List Input) (close : Bool)
    (result : Result T Stop) (says : List ℕ → Type 0) (ahead' : Option Moments) (was : Giving) : Type 0 where
  pub pass : HasPassed choose files close (is_whole result) was.ahead ahead' was.begun was.orders
  pub own : AllByRecursion (IsFileOf inputs) (map file_of pass.visits)
  pub sought : IfSome files (λ all. Visits (is_whole result) (sought all inputs) (map file_of pass.visits))
  pub why : IsEnd choose was.mounted was.begun result was.orders pass.rest
  pub text : says (lines pass.visits)

-- A run that monitors files: the lines of the visits are written where it is done.
abbrev pub HasMonitored : Chooser → Option (List TreeFile) → List Input → Bool → Result Unit Stop → Option Moments → Option (List ℕ) →
    Option (List ℕ) → Giving → Type 0
HasMonitored choose files inputs close result ahead' out out' was =
    HasVisited choose files inputs close result (Writes result out out') ahead' was

-- so it is of commands that were given behind a history, each of which the store takes
abbrev pub AndTaken : (TimedCommand → Type 0) → Doing → ℕ → Option Moments → List TimedCommand → List TimedCommand → Type 0
AndTaken takes may mounted ahead begun orders = may (giving mounted ahead begun orders) × AllByRecursion takes orders
