-- Commands that are given one by one, each at the moment that the clock tells for it: all that is
-- known of store, disk and clock behind them, as one fact, so that it is joined at one place.
use Rattle.std.specs.Prelude.{◌≡◌, ◌≤◌, ℕ, ℤ, Bool, true, false, List, [], ◌++◌, map, Option, Some, Result, Err}
use Rattle.std.specs.List.{AllByRecursion}
use Rattle.ix_base.specs.Clocks.{Moments}
use Rattle.ix_base.specs.Faults.{Rose}
use Rattle.ix_base.specs.Told.{Told}
use Rattle.ix_base.specs.declared.files.File.{File}
use Rattle.ix_disk.specs.Image.{Image}
use Rattle.ix_disk.specs.declared.disk.Disk.{Ghosts}
use Rattle.ix_manifest.specs.Book.{NamedItems}
use Rattle.ix_commit.specs.Contents.{Anyhow}
use Rattle.ix_commit.specs.Snapshot.{LogsAtEnd, KnowsLogLength}
use Rattle.ix_commit.specs.declared.fault.CommitFault.TheVariants as commits
use Rattle.ix_model.specs.Given.{Chooser}
use Rattle.ix_model.specs.declared.commands.Command.{Command}
use Rattle.ix_model.specs.declared.commands.TimedCommand.{TimedCommand}
use Rattle.ix_store.specs.Holding.{Represents}
use Rattle.ix_store.specs.declared.store.Store.{Store}
use Rattle.ix_run.specs.Placed.{ReadsEnd}
use Rattle.ix_run.specs.Storing.{Gives, is_cut}
use Rattle.ix_run.specs.declared.giving.GiveFault.{GiveFault}
use Rattle.ix_run.specs.declared.giving.GiveFault.TheVariants.{Commit}
use Rattle.ix_run.specs.Running.{outset}
use Rattle.ix_watch.specs.Passes.{Asks}
use Rattle.ix_watch.specs.Watching.{command_of}

-- What a store has in memory: how the settings of channels are chosen for it, which commands it
-- takes, what its book may be, and whether it is that of a history.
pub record Kind (M : Type 0) : Type 1 where
  pub is_chooser : Chooser → Type 0
  pub takes : TimedCommand → Type 0
  pub fits : NamedItems → Type 0
  pub holds : Chooser → List TimedCommand → M → Type 0

abbrev pub kind : {M : Type 0} → (Chooser → Type 0) → (TimedCommand → Type 0) → (NamedItems → Type 0) →
    (Chooser → List TimedCommand → M → Type 0) → Kind M
kind is_chooser takes fits holds = record { is_chooser = is_chooser; takes = takes; fits = fits; holds = holds }

-- A store and its disk, before some commands and behind them.
pub record Change (M D : Type 0) : Type 0 where
  pub store : Store M
  pub disk : D
  pub store' : Store M
  pub disk' : D

abbrev pub change : {M D : Type 0} → Store M → D → Store M → D → Change M D
change store disk store' disk' = record { store = store; disk = disk; store' = store'; disk' = disk' }

-- These commands were given, or the first of them; and what is left of store and disk.
pub record Went {D : Type 0} (d : Ghosts D) {M : Type 0} (kind : Kind M) (result : Result Unit GiveFault) (orders : List TimedCommand)
    (held : Change M D) : Type 0 where
  pub taken : AllByRecursion kind.takes orders
  pub given : (choose : Chooser) (history : List TimedCommand) (base k : ℕ) → kind.is_chooser choose →
      AllByRecursion kind.takes history → Represents d kind.fits kind.holds choose history base k held.store held.disk →
      Gives d kind.fits kind.holds (outset choose history base k held.store.run held.disk) held.store' held.disk' result orders
  pub over : is_cut result ≡ false → LogsAtEnd d held.store'.committer held.disk'
  pub measured : is_cut result ≡ false → KnowsLogLength d held.store.committer held.disk → KnowsLogLength d held.store'.committer held.disk'
  pub undamaged : (file : File) (at : ℕ) → result ≡ Err (Commit (commits.Damaged file at)) →
      (choose : Chooser) (history : List TimedCommand) (base k : ℕ) → kind.is_chooser choose →
      AllByRecursion kind.takes history → Represents d kind.fits kind.holds choose history base k held.store held.disk → (image : Image) →
      d.seen held.disk' ≡ Some image → ⊥
  pub placed : (file : File) (at : ℕ) → result ≡ Err (Commit (commits.Damaged file at)) → ReadsEnd d held.disk' file at
  pub told : Told Anyhow (d.seen held.disk) (d.seen held.disk')
  pub later : d.faults held.disk ≤ d.faults held.disk'
  pub cause : result ≡ Err (Commit commits.Disk) → Rose (d.faults held.disk) (d.faults held.disk')

-- Of these commands the first were tried, each at the moment that the clock told for it; where it
-- is said, all were. The last of them may have been refused.
pub record Tried (all : Bool) (commands : List Command) (ahead ahead' : Option Moments) (went : List TimedCommand → Type 0) : Type 0 where
  pub orders : List TimedCommand
  pub rest : List Command
  pub commands_are : commands ≡ map command_of orders ++ rest
  pub whole : all ≡ true → rest ≡ []
  pub asked : Asks orders ahead ahead'
  pub done : went orders

abbrev pub order_at : Command → ℤ → TimedCommand
order_at command moment = record { command = command; moment = moment }
