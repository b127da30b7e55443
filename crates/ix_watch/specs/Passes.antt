-- What a pass over watched files gives to a store.
use Rattle.std.specs.Prelude.{◌≡◌, Bool, true, ℕ, List, [], ◌∷◌, ◌++◌, map, Option, Some, IfSome}
use Rattle.std.specs.List.{flat_map}
use Rattle.ix_base.specs.Clocks.{Moments, Answered}
use Rattle.ix_base.specs.Told.{Told, IsFrontOf}
use Rattle.ix_fs.specs.declared.trees.TreeFile.{TreeFile}
use Rattle.ix_fs.specs.Trees.{bytes_at}
use Rattle.ix_monitor.specs.declared.watched.Watched.{Watched}
use Rattle.ix_model.specs.Given.{Chooser}
use Rattle.ix_model.specs.Judged.{is_begun, adds}
use Rattle.ix_model.specs.Step.{state_after}
use Rattle.ix_model.specs.declared.commands.Command.{Command}
use Rattle.ix_model.specs.declared.commands.TimedCommand.{TimedCommand}
use Rattle.ix_watch.specs.Visits.{Found, visit_of, visited_of, line, IsRead, IsFoundIn}
use Rattle.ix_watch.specs.Watching.{channel_of, command_of, kept_of, IsWatched}
use Rattle.ix_watch.specs.declared.visited.Visited.{Visited}

-- ---- visits

-- A file of a pass, what was found of it, and what the visit came to. Nothing is found where the
-- tree does not have it.
pub record Visit : Type 0 where
  pub file : Watched
  pub found : Option Found
  pub came : Visited

abbrev pub file_of : Visit → Watched
file_of v = v.file

-- the lines of a pass
abbrev pub line_of : Visit → List ℕ
line_of v = line v.file v.came

abbrev pub lines : List Visit → List ℕ
lines visits = flat_map line_of visits

-- A visit behind a history: its commands are by what is kept of the file then, and by whether its
-- channel is open then. Where it is whole all of them are given, and this is what it came to; else
-- the first ones are. Where the tree tells its files, what was found is what the file has.
pub record IsVisited (choose : Chooser) (files : Option (List TreeFile)) (close whole : Bool) (history : List TimedCommand) (v : Visit)
    (orders : List TimedCommand) : Type 0 where
  pub rest : List Command
  pub commands : visit_of v.file (kept_of (state_after choose history) v.file.path) v.found
      (is_begun (state_after choose history) (channel_of v.file.path)) close ≡ map command_of orders ++ rest
  pub all : whole ≡ true → rest ≡ []
  pub came : whole ≡ true → v.came ≡ visited_of (kept_of (state_after choose history) v.file.path) v.found
  pub read : IfSome v.found (IsRead (kept_of (state_after choose history) v.file.path))
  pub told : IfSome files (λ all. IsFoundIn whole (kept_of (state_after choose history) v.file.path) v.found (bytes_at all v.file.path))

-- the history with these commands, each with the Tick that it may bring
abbrev pub with_all : Chooser → List TimedCommand → List TimedCommand → List TimedCommand
with_all choose history [] = history
with_all choose history (order ∷ orders) = with_all choose (history ++ adds (state_after choose history) order) orders

-- Visits one behind the other, of which the last may be stopped.
abbrev pub AreVisited : Chooser → Option (List TreeFile) → Bool → Bool → List TimedCommand → List Visit → List TimedCommand → Type 0
AreVisited choose files close whole history [] orders = orders ≡ []
AreVisited choose files close whole history (v ∷ []) orders = IsVisited choose files close whole history v orders
AreVisited choose files close whole history (v ∷ next ∷ visits) orders =
    (first : List TimedCommand) × (rest : List TimedCommand) × (orders ≡ first ++ rest) × IsVisited choose files close true history v first
    × AreVisited choose files close whole (with_all choose history first) (next ∷ visits) rest

-- ---- passes

-- the clock was asked for the moments of these commands, one after the other, and not otherwise
abbrev pub Asks : List TimedCommand → Option Moments → Option Moments → Type 0
Asks [] ahead ahead' = ahead' ≡ ahead
Asks (order ∷ orders) ahead ahead' = (mid : Option Moments) × Told (Answered order.moment) ahead mid × Asks orders mid ahead'

-- A pass behind a history: the first of the commands that were tried are given, all of them where
-- the pass is whole. The clock was asked for each that was tried, of which the last may have been
-- refused.
pub record HasPassed (choose : Chooser) (files : Option (List TreeFile)) (close whole : Bool) (ahead ahead' : Option Moments)
    (history orders : List TimedCommand) : Type 0 where
  pub visits : List Visit
  pub tried : List TimedCommand
  pub rest : List TimedCommand
  pub parts : tried ≡ orders ++ rest
  pub all : whole ≡ true → rest ≡ []
  pub asked : Asks tried ahead ahead'
  pub are : AreVisited choose files close whole history visits tried

-- ---- the law

-- Where a history goes on with a file, it still does behind a pass over a tree in which the file
-- has become longer, or has stayed as it was; also behind a pass that was stopped.
abbrev pub PassesFollow : Type 0
PassesFollow =
    (choose : Chooser) (files : List TreeFile) (close whole : Bool) (ahead ahead' : Option Moments) (history orders : List TimedCommand)
    (before bytes path : List ℕ) →
    IsWatched before path history → IsFrontOf before bytes → bytes_at files path ≡ Some bytes →
    HasPassed choose (Some files) close whole ahead ahead' history orders →
    IsWatched bytes path (with_all choose history orders)
