-- What a run over a store comes to.
use Rattle.std.specs.Prelude.{◌≡◌, ◌⊎◌, ◌==◌, ◌&&◌, ℕ, Bool, true, false, bytes_eq, List, [], ◌∷◌, length}
use Rattle.ix_disk.specs.declared.disk.Disk.{Ghosts}
use Rattle.ix_manifest.specs.Book.{NamedItems}
use Rattle.ix_items.specs.declared.items.Kept.{Kept}
use Rattle.ix_model.specs.Given.{Chooser}
use Rattle.ix_model.specs.declared.commands.TimedCommand.{TimedCommand}
use Rattle.ix_store.specs.declared.store.Store.{Store}
use Rattle.ix_run.specs.Giving.{given_all, HasKeptAll}
use Rattle.ix_run.specs.Running.{AlwaysRecoverable, StandsFrom, Outset}

-- Commands such as these were accepted behind a history in this run, and all are committed; every
-- image since has all that was committed before, and from the disk behind the last commit on every
-- image has all.
pub record IsLeft {D : Type 0} (d : Ghosts D) {M : Type 0} (fits : NamedItems → Type 0) (holds : Chooser → List TimedCommand → M → Type 0)
    (s : Outset D) (may : List TimedCommand → Type 0) (store : Store M) (disk : D) : Type 0 where
  pub orders : List TimedCommand
  pub allowed : may orders
  pub all : HasKeptAll d fits holds s orders store disk
  pub committed : D
  pub lasts : StandsFrom d fits s.run s.choose (given_all s.choose s.history orders) (length (given_all s.choose s.history orders))
      committed disk

-- The same where it is not known what of them is committed.
pub record HasLasted {D : Type 0} (d : Ghosts D) (fits : NamedItems → Type 0) (s : Outset D) (may : List TimedCommand → Type 0) (disk : D) :
    Type 0 where
  pub orders : List TimedCommand
  pub allowed : may orders
  pub stood : AlwaysRecoverable d fits s.run s.choose (given_all s.choose s.history orders) s.kept s.disk disk

-- by whether what was accepted may be lost
abbrev pub Ends : Bool → {D : Type 0} → Ghosts D → {M : Type 0} → (NamedItems → Type 0) → (Chooser → List TimedCommand → M → Type 0) →
    Outset D → (List TimedCommand → Type 0) → Store M → D → Type 0
Ends true d fits holds s may store disk = HasLasted d fits s may disk
Ends false d fits holds s may store disk = IsLeft d fits holds s may store disk

-- this command alone
abbrev pub Only : TimedCommand → List TimedCommand → Type 0
Only order orders = orders ≡ order ∷ []

-- or not even that
abbrev pub AtMost : TimedCommand → List TimedCommand → Type 0
AtMost order orders = (orders ≡ []) ⊎ (orders ≡ order ∷ [])

-- ---- settings

abbrev pub same_entry : Kept → Kept → Bool
same_entry a b = (a.file == b.file) && (bytes_eq a.stanza b.stanza && (bytes_eq a.key b.key && bytes_eq a.value b.value))

abbrev pub same_kept : List Kept → List Kept → Bool
same_kept [] [] = true
same_kept [] (b ∷ bs) = false
same_kept (a ∷ more) [] = false
same_kept (a ∷ more) (b ∷ bs) = same_entry a b && same_kept more bs
