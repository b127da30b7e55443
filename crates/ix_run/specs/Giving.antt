-- Commands that are given one after the other.
use Rattle.std.specs.Prelude.{◌≡◌, ◌≤◌, ℕ, false, List, [], ◌∷◌, length, drop}
use Rattle.ix_disk.specs.declared.disk.Disk.{Ghosts}
use Rattle.ix_manifest.specs.Book.{NamedItems}
use Rattle.ix_model.specs.Bounds.{IsAllowed}
use Rattle.ix_model.specs.Given.{Chooser}
use Rattle.ix_model.specs.Step.{state_after}
use Rattle.ix_model.specs.declared.answers.Accepted.{Accepted}
use Rattle.ix_model.specs.declared.commands.TimedCommand.{TimedCommand}
use Rattle.ix_store.specs.Counting.{numbers}
use Rattle.ix_store.specs.Holding.{Represents, IsAnswer}
use Rattle.ix_store.specs.Making.{with_order}
use Rattle.ix_store.specs.declared.store.Store.{Store}
use Rattle.ix_run.specs.Running.{AlwaysRecoverable, Outset}

-- the history with further commands, each with the Tick that it may bring
abbrev pub given_all : Chooser → List TimedCommand → List TimedCommand → List TimedCommand
given_all choose history [] = history
given_all choose history (order ∷ orders) = given_all choose (with_order choose history order) orders

-- each was allowed when it was given, in a run that began behind the first `base` commands
abbrev pub AreAllowed : Chooser → ℕ → List TimedCommand → List TimedCommand → Type 0
AreAllowed choose base history [] = Unit {0}
AreAllowed choose base history (order ∷ orders) =
    IsAllowed choose false (numbers (drop base history)) (state_after choose history) order
    × AreAllowed choose base (with_order choose history order) orders

-- Store and disk hold the history with these commands, in this run; no fewer are committed than
-- before; and every image since stood for a prefix.
pub record HasGivenAll {D : Type 0} (d : Ghosts D) {M : Type 0} (fits : NamedItems → Type 0) (holds : Chooser → List TimedCommand → M →
    Type 0) (s : Outset D) (orders : List TimedCommand) (store : Store M) (disk : D) : Type 0 where
  pub count : ℕ
  pub kept : s.kept ≤ count
  pub allowed : AreAllowed s.choose s.base s.history orders
  pub same_run : store.run ≡ s.run
  pub hold : Represents d fits holds s.choose (given_all s.choose s.history orders) s.base count store disk
  pub stood : AlwaysRecoverable d fits s.run s.choose (given_all s.choose s.history orders) s.kept s.disk disk

-- and all are committed
pub record HasKeptAll {D : Type 0} (d : Ghosts D) {M : Type 0} (fits : NamedItems → Type 0) (holds : Chooser → List TimedCommand → M →
    Type 0) (s : Outset D) (orders : List TimedCommand) (store : Store M) (disk : D) : Type 0 where
  pub allowed : AreAllowed s.choose s.base s.history orders
  pub same_run : store.run ≡ s.run
  pub hold : Represents d fits holds s.choose (given_all s.choose s.history orders) s.base (length (given_all s.choose s.history orders))
      store disk
  pub stood : AlwaysRecoverable d fits s.run s.choose (given_all s.choose s.history orders) s.kept s.disk disk

-- A command was given, where so many had drawn a number in this run: it was allowed, this is its
-- answer, and all is committed.
pub record IsKept {D : Type 0} (d : Ghosts D) {M : Type 0} (fits : NamedItems → Type 0) (holds : Chooser → List TimedCommand → M →
    Type 0) (s : Outset D) (order : TimedCommand) (drawn : ℕ) (answer : Accepted) (store : Store M) (disk : D) : Type 0 where
  pub allowed : IsAllowed s.choose false drawn (state_after s.choose s.history) order
  pub answers : IsAnswer s.run drawn s.choose s.history order answer
  pub all : HasKeptAll d fits holds s (order ∷ []) store disk
