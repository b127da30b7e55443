-- One visit of a watched file, over a store.
use Rattle.std.specs.Prelude.{◌≡◌, ◌≤◌, ◌+◌, ◌-◌, ◌++◌, ℕ, Bool, true, false, List, [], length, take, drop, Option, IfSome}
use Rattle.std.specs.Prelude.{Result, Ok, Err, IfOk}
use Rattle.ix_base.specs.Clocks.{Moments}
use Rattle.ix_base.specs.Told.{IsFrontOf}
use Rattle.ix_base.specs.declared.events.Spot.{Spot}
use Rattle.ix_fs.specs.declared.trees.TreeFile.{TreeFile}
use Rattle.ix_fs.specs.Trees.{bytes_at}
use Rattle.ix_monitor.specs.declared.steps.Seen.{Seen}
use Rattle.ix_monitor.specs.declared.steps.Step.{Step}
use Rattle.ix_monitor.specs.declared.steps.Step.TheVariants.{Skip, From, Again}
use Rattle.ix_monitor.specs.declared.watched.Watched.{Watched}
use Rattle.ix_model.specs.declared.commands.Command.{Command}
use Rattle.ix_model.specs.declared.commands.TimedCommand.{TimedCommand}
use Rattle.ix_watch.specs.Visits.{Found, AreBlocks, joined, begins, begins_anew, adds, ends, visit_by, visit_of, visited_by, visited_of}
use Rattle.ix_watch.specs.Visits.{end_by, IsRead, IsFoundIn}
use Rattle.ix_watch.specs.declared.visited.Visited.{Visited}
use Rattle.ix_pass.specs.Filling.{ReadsTo}
use Rattle.ix_pass.specs.Giving.{Tried}
use Rattle.ix_pass.specs.declared.fault.PassFault.{PassFault}

abbrev pub is_whole : {T E : Type 0} → Result T E → Bool
is_whole (Ok done) = true
is_whole (Err fault) = false

-- ---- reading on

-- the channel is opened, where it is not open or anew
abbrev pub opens : Bool → Watched → Bool → List Command
opens false file is_open = begins file is_open
opens true file is_open = begins_anew file is_open

-- How a file is read on in: the file, and what was seen of it; the place from which on; whether its
-- channel is open, whether it is begun anew, and whether it is ended behind what is read.
pub record ReadingOn : Type 0 where
  pub file : Watched
  pub seen : Seen
  pub from : ℕ
  pub is_open : Bool
  pub again : Bool
  pub close : Bool

abbrev pub reading_on : Watched → Seen → ℕ → Bool → Bool → Bool → ReadingOn
reading_on file seen from is_open again close =
    record { file = file; seen = seen; from = from; is_open = is_open; again = again; close = close }

-- The channel was opened, blocks were read and given, and it was ended where that was asked for;
-- all of it where nothing failed.
pub record ReadsOn (result : Result ℕ PassFault) (files : Option (List TreeFile)) (on : ReadingOn) (ahead ahead' : Option Moments)
    (went : List TimedCommand → Type 0) : Type 0 where
  pub blocks : List (List ℕ)
  pub sizes : AreBlocks blocks
  pub within : on.from + length (joined blocks) ≤ on.seen.size
  pub reached : IfOk result (λ to. to ≡ on.from + length (joined blocks))
  pub read : IfSome files (λ all. IfSome (bytes_at all on.file.path) (ReadsTo result on.from on.seen.size (joined blocks)))
  pub tried : Tried (is_whole result)
      (opens on.again on.file on.is_open ++ (adds on.file.path on.seen.head on.from blocks ++ ends on.file on.close)) ahead ahead' went

-- ---- a step

-- it reads from within the file
abbrev pub IsWithin : Step → ℕ → Type 0
IsWithin Skip size = Unit {0}
IsWithin (From place) size = place ≤ size
IsWithin Again size = Unit {0}

-- how much of a file that has these bytes was read: all that the step reads up to the size, or a
-- first part
abbrev pub StepReads : Bool → Step → ℕ → List ℕ → List ℕ → Type 0
StepReads true Skip size read bytes = read ≡ []
StepReads true (From place) size read bytes = read ≡ take (size - place) (drop place bytes)
StepReads true Again size read bytes = read ≡ take (size - 0) (drop 0 bytes)
StepReads false Skip size read bytes = read ≡ []
StepReads false (From place) size read bytes = IsFrontOf read (drop place bytes)
StepReads false Again size read bytes = IsFrontOf read (drop 0 bytes)

abbrev pub found_with : Seen → List (List ℕ) → Found
found_with seen blocks = record { seen = seen; blocks = blocks }

-- A file that was looked at: what was seen of it, whether its channel is open, and whether it is to
-- be ended behind what is read.
pub record LookedAt : Type 0 where
  pub file : Watched
  pub seen : Seen
  pub is_open : Bool
  pub close : Bool

abbrev pub looked_at : Watched → Seen → Bool → Bool → LookedAt
looked_at file seen is_open close = record { file = file; seen = seen; is_open = is_open; close = close }

-- A step was taken.
pub record Steps (result : Result Visited PassFault) (files : Option (List TreeFile)) (on : LookedAt) (step : Step)
    (ahead ahead' : Option Moments) (went : List TimedCommand → Type 0) : Type 0 where
  pub blocks : List (List ℕ)
  pub sizes : AreBlocks blocks
  pub within : end_by step (found_with on.seen blocks) ≤ on.seen.size
  pub came : IfOk result (λ visited. visited ≡ visited_by step (found_with on.seen blocks))
  pub read : IfSome files (λ all. IfSome (bytes_at all on.file.path) (StepReads (is_whole result) step on.seen.size (joined blocks)))
  pub tried : Tried (is_whole result) (visit_by step on.file (found_with on.seen blocks) on.is_open on.close) ahead ahead' went

-- ---- a visit

-- A file was visited: what is kept of it and whether its channel was open is what the store knows;
-- its commands were tried, all of them where the visit came to its end; where the files are told,
-- what was found is what the file has.
pub record Visits {E : Type 0} (result : Result Visited E) (files : Option (List TreeFile)) (file : Watched) (close : Bool)
    (ahead ahead' : Option Moments)
    (knows : Option Spot → Bool → Type 0) (went : List TimedCommand → Type 0) : Type 0 where
  pub kept : Option Spot
  pub is_open : Bool
  pub found : Option Found
  pub known : IfSome found (λ (some : Found). knows kept is_open)
  pub came : IfOk result (λ visited. visited ≡ visited_of kept found)
  pub read : IfSome found (IsRead kept)
  pub told : IfSome files (λ all. IsFoundIn (is_whole result) kept found (bytes_at all file.path))
  pub tried : Tried (is_whole result) (visit_of file kept found is_open close) ahead ahead' went
