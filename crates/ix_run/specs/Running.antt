-- What a store and its disk hold while commands are given.
use Rattle.std.specs.Prelude.{◌≡◌, ◌≤◌, ℕ, false, List, [], ◌++◌, drop}
use Rattle.ix_disk.specs.Image.{Image}
use Rattle.ix_disk.specs.Moments.{Always}
use Rattle.ix_disk.specs.declared.disk.Disk.{Ghosts}
use Rattle.ix_manifest.specs.Book.{NamedItems}
use Rattle.ix_model.specs.Bounds.{IsAllowed, IsRefused}
use Rattle.ix_model.specs.Given.{Chooser}
use Rattle.ix_model.specs.Judged.{adds}
use Rattle.ix_model.specs.Step.{state_after}
use Rattle.ix_model.specs.declared.answers.Accepted.{Accepted}
use Rattle.ix_model.specs.declared.commands.TimedCommand.{TimedCommand}
use Rattle.ix_store.specs.Counting.{is_due}
use Rattle.ix_store.specs.Holding.{Represents, IsAnswer}
use Rattle.ix_store.specs.Written.{RecoversToPrefix}
use Rattle.ix_store.specs.declared.store.Store.{Store}
use Rattle.ix_run.specs.declared.giving.GiveFault.{GiveFault}
use Rattle.ix_run.specs.declared.giving.GiveFault.TheVariants as faults

-- What commands begin with over a store: the way to choose the settings of channels, and the
-- history that store and disk hold; how many of its first commands were there when the store was
-- mounted, and how many are committed; the number of the run; and the disk.
pub record Outset (D : Type 0) : Type 0 where
  pub choose : Chooser
  pub history : List TimedCommand
  pub base : ℕ
  pub kept : ℕ
  pub run : ℕ
  pub disk : D

abbrev pub outset : {D : Type 0} → Chooser → List TimedCommand → ℕ → ℕ → ℕ → D → Outset D
outset choose history base kept run disk =
    record { choose = choose; history = history; base = base; kept = kept; run = run; disk = disk }

-- Since a moment of the disk every image has stood for a prefix of the history with at least k
-- commands, and for this run or a later one.
abbrev pub AlwaysRecoverable : {D : Type 0} → Ghosts D → (NamedItems → Type 0) → ℕ → Chooser → List TimedCommand → ℕ → D → D → Type 0
AlwaysRecoverable d fits run choose history k before disk = Always d before disk (RecoversToPrefix fits run choose history k)

-- From a disk on every image has stood for such a prefix: each that a crash may leave of that disk,
-- and each since.
pub record StandsFrom {D : Type 0} (d : Ghosts D) (fits : NamedItems → Type 0) (run : ℕ) (choose : Chooser) (history : List TimedCommand)
    (k : ℕ) (from disk : D) : Type 0 where
  pub at_first : (image : Image) → d.may_leave from image → RecoversToPrefix fits run choose history k image
  pub since : AlwaysRecoverable d fits run choose history k from disk

-- Store and disk hold the history with further commands, in this run; no fewer are committed than
-- before; and every image since stood for a prefix.
pub record HasAdvanced {D : Type 0} (d : Ghosts D) {M : Type 0} (fits : NamedItems → Type 0) (holds : Chooser → List TimedCommand → M →
    Type 0) (s : Outset D) (more : List TimedCommand) (store : Store M) (disk : D) : Type 0 where
  pub count : ℕ
  pub kept : s.kept ≤ count
  pub same_run : store.run ≡ s.run
  pub hold : Represents d fits holds s.choose (s.history ++ more) s.base count store disk
  pub stood : AlwaysRecoverable d fits s.run s.choose (s.history ++ more) s.kept s.disk disk

-- The same, where what is not committed is not due.
pub record HasSettled {D : Type 0} (d : Ghosts D) {M : Type 0} (fits : NamedItems → Type 0) (holds : Chooser → List TimedCommand → M →
    Type 0) (s : Outset D) (more : List TimedCommand) (store : Store M) (disk : D) : Type 0 where
  pub gone : HasAdvanced d fits holds s more store disk
  pub not_due : is_due (drop gone.count (s.history ++ more)) ≡ false

-- A command was given, where so many had drawn a number in this run: it was allowed, this is its
-- answer, and what is not committed is not due.
pub record IsGiven {D : Type 0} (d : Ghosts D) {M : Type 0} (fits : NamedItems → Type 0) (holds : Chooser → List TimedCommand → M →
    Type 0) (s : Outset D) (order : TimedCommand) (drawn : ℕ) (answer : Accepted) (store : Store M) (disk : D) : Type 0 where
  pub allowed : IsAllowed s.choose false drawn (state_after s.choose s.history) order
  pub answers : IsAnswer s.run drawn s.choose s.history order answer
  pub gone : HasAdvanced d fits holds s (adds (state_after s.choose s.history) order) store disk
  pub not_due : is_due (drop gone.count (s.history ++ adds (state_after s.choose s.history) order)) ≡ false

-- A command was refused for its cause, and all is as it was; or it was accepted, and the disk
-- failed.
abbrev pub IsNotGiven : {D : Type 0} → Ghosts D → {M : Type 0} → (NamedItems → Type 0) → (Chooser → List TimedCommand → M → Type 0) →
    Outset D → TimedCommand → ℕ → GiveFault → Store M → D → Type 0
IsNotGiven d fits holds s order drawn (faults.Refused refusal) store disk =
    IsRefused s.choose false drawn (state_after s.choose s.history) order refusal × HasAdvanced d fits holds s [] store disk
IsNotGiven d fits holds s order drawn (faults.Commit fault) store disk =
    AlwaysRecoverable d fits s.run s.choose (s.history ++ adds (state_after s.choose s.history) order) s.kept s.disk disk
