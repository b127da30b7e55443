-- The bytes of a watched file are read from a place on, and given to its channel in blocks.
use Rattle.std.specs.Prelude.{◌≡◌, ◌≤◌, ◌+◌, ◌-◌, ℕ, true, List, length, take, drop, Option, IfSome, Result, Ok, Err, IfOk}
use Rattle.ix_base.specs.Clocks.{Moments}
use Rattle.ix_base.specs.Told.{IsFrontOf}
use Rattle.ix_fs.specs.declared.trees.TreeFile.{TreeFile}
use Rattle.ix_fs.specs.Trees.{bytes_at}
use Rattle.ix_model.specs.declared.commands.TimedCommand.{TimedCommand}
use Rattle.ix_run.specs.declared.giving.GiveFault.{GiveFault}
use Rattle.ix_watch.specs.Visits.{joined, adds, AreBlocks}
use Rattle.ix_pass.specs.Giving.{Tried}
use Rattle.ix_pass.specs.declared.fault.PassFault.{PassFault}
use Rattle.ix_pass.specs.declared.fault.PassFault.TheVariants as stops

-- what came of the commands that were tried: where the tree failed, or memory was short to read,
-- all were given
abbrev pub gave_of : {T : Type 0} → Result T PassFault → Result Unit GiveFault
gave_of (Ok done) = Ok tt
gave_of (Err (stops.Given fault)) = Err fault
gave_of (Err stops.Input) = Ok tt
gave_of (Err stops.Memory) = Ok tt

-- how much of a file that has these bytes: all up to the size, or a first part
abbrev pub ReadsTo : Result ℕ PassFault → ℕ → ℕ → List ℕ → List ℕ → Type 0
ReadsTo (Ok at) from size read bytes = read ≡ take (size - from) (drop from bytes)
ReadsTo (Err fault) from size read bytes = IsFrontOf read (drop from bytes)

-- These blocks were read, and given where all went well; it is known how far the file was read
-- then.
pub record Fills (result : Result ℕ PassFault) (files : Option (List TreeFile)) (path head : List ℕ) (from size : ℕ)
    (ahead ahead' : Option Moments) (went : List TimedCommand → Type 0) : Type 0 where
  pub blocks : List (List ℕ)
  pub sizes : AreBlocks blocks
  pub within : from + length (joined blocks) ≤ size
  pub reached : IfOk result (λ at. at ≡ from + length (joined blocks))
  pub read : IfSome files (λ all. IfSome (bytes_at all path) (ReadsTo result from size (joined blocks)))
  pub tried : Tried true (adds path head from blocks) ahead ahead' went
