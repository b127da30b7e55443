-- What commands do to shelves and files, and what prefixes of a history leave: the statements of
-- the laws.
use Rattle.std.specs.Prelude.{◌≡◌, ◌≤◌, ◌++◌, ◌∷◌, ℕ, ℤ, true, List, [], length, Some, slice_get}
use Rattle.std.specs.List.{AllByRecursion}
use Rattle.ix_base.specs.declared.files.File.{File}
use Rattle.ix_base.specs.declared.events.Routed.{Routed}
use Rattle.ix_items.specs.declared.items.Kept.{Kept}
use Rattle.ix_items.specs.declared.items.Entry.{Entry}
use Rattle.ix_commit.specs.Contents.{Contents, filling}
use Rattle.ix_commit.specs.Drafts.{AreFit, AreFitCopies, with_pieces, with_copies}
use Rattle.ix_commit.specs.Mounting.{IsFamily}
use Rattle.ix_commit.specs.Snapshot.{Forgets}
use Rattle.ix_life.specs.declared.sets.LimitSet.{LimitSet}
use Rattle.ix_model.specs.Buckets.{Slot, entered}
use Rattle.ix_model.specs.Given.{Chooser}
use Rattle.ix_model.specs.State.{State, Catalog, slots_in}
use Rattle.ix_model.specs.Step as machine
use Rattle.ix_model.specs.Step.{state_after}
use Rattle.ix_model.specs.declared.commands.TimedCommand.{TimedCommand}
use Rattle.ix_catalog.specs.Dealing as dealing
use Rattle.ix_catalog.specs.Turning as turning
use Rattle.ix_catalog.specs.Shelves.{with_indexes}
use Rattle.ix_catalog.specs.declared.placer.Work.{Work}
use Rattle.ix_model.specs.Contents.{contents_of}
use Rattle.ix_model.specs.Done.{IsDone}
use Rattle.ix_model.specs.Shelved.{IsSet, shelved}
use Rattle.ix_model.specs.Snap.{snapshot_of_prefix}

-- ---- shelves: what is done to them in memory is what the machine does

abbrev pub begun : List Kept → Catalog → Work
begun force s = record { shelves = shelved force s; pieces = [] }

abbrev pub worked : LimitSet → List Kept → ℤ → Catalog → List Routed → Work
worked set force moment s outcomes = dealing.deal_all set s.ledger moment (begun force s) outcomes

abbrev pub DealsAreShelved : Type 0
DealsAreShelved =
    (choose : Chooser) (history : List TimedCommand) (set : LimitSet) (moment : ℤ) (outcomes : List Routed) →
    let m : State = state_after choose history in
    IsSet m.force set →
    (worked set m.force moment m.catalog outcomes).shelves ≡ shelved m.force (machine.deal_all m.force moment m.catalog outcomes)

-- a turn of housekeeping, and the entries that it puts behind the ledger
pub record IsTurned (force : List Kept) (moment : ℤ) (s : Catalog) : Type 0 where
  pub shelves : with_indexes (turning.turn_all moment (shelved force s)).indexes (turning.turn_all moment (shelved force s)).next_file
      (shelved force s)
      ≡ shelved force (machine.tick force moment s)
  pub ledger : (machine.tick force moment s).ledger ≡ s.ledger ++ (turning.turn_all moment (shelved force s)).entries

abbrev pub TurnsAreShelved : Type 0
TurnsAreShelved = (choose : Chooser) (history : List TimedCommand) (moment : ℤ) →
    IsTurned (state_after choose history).force moment (state_after choose history).catalog

abbrev pub RollsAreShelved : Type 0
RollsAreShelved = (choose : Chooser) (history : List TimedCommand) (index : List ℕ) →
    let m : State = state_after choose history in
    turning.roll index (shelved m.force m.catalog) ≡ shelved m.force (machine.roll index m.catalog)

-- a bucket that can be brought back, with its entry
abbrev pub ThawsAreShelved : Type 0
ThawsAreShelved = (choose : Chooser) (history : List TimedCommand) (index : List ℕ) (id : ℕ) (s : Slot) (e : Entry) →
    let m : State = state_after choose history in
    slice_get (slots_in m.catalog.indexes index) id ≡ Some s → entered s.standing ≡ Some e → machine.thaws index id m.catalog ≡ true →
    turning.thaw e (shelved m.force m.catalog) ≡ shelved m.force (machine.thaw index id m.catalog)

-- ---- files: the bytes and copies lead from what the files begin with to what they then begin with

-- the records that are dealt
pub record AreFiled (set : LimitSet) (force : List Kept) (moment : ℤ) (s : Catalog) (outcomes : List Routed) : Type 0 where
  pub fit : AreFit (contents_of s) (worked set force moment s outcomes).pieces
  pub lead : Forgets (with_pieces (worked set force moment s outcomes).pieces (contents_of s))
      (contents_of (machine.deal_all force moment s outcomes))

abbrev pub DealsAreFiled : Type 0
DealsAreFiled =
    (choose : Chooser) (history : List TimedCommand) (set : LimitSet) (moment : ℤ) (outcomes : List Routed) →
    let m : State = state_after choose history in
    IsSet m.force set → AreFiled set m.force moment m.catalog outcomes

-- files from the next number on had nothing
abbrev pub HasNoneFrom : ℕ → Contents → Type 0
HasNoneFrom next contents = (file : File) → next ≤ file.number → filling contents file ≡ []

-- the copies of a turn, where the snapshot that is committed had nothing in the files that come
pub record AreCopied (force : List Kept) (moment : ℤ) (s : Catalog) (old : Contents) : Type 0 where
  pub fit : AreFitCopies old (contents_of s) (turning.turn_all moment (shelved force s)).copies
  pub lead : Forgets (with_copies (turning.turn_all moment (shelved force s)).copies (contents_of s))
      (contents_of (machine.tick force moment s))
  -- the files that are left are done with
  pub done : AllByRecursion (IsDone (machine.tick force moment s)) (turning.turn_all moment (shelved force s)).files

abbrev pub TurnsAreCopied : Type 0
TurnsAreCopied = (choose : Chooser) (history : List TimedCommand) (moment : ℤ) (old : Contents) →
    let m : State = state_after choose history in
    HasNoneFrom m.catalog.next_file old → AreCopied m.force moment m.catalog old

-- a roll moves nothing
abbrev pub RollsAreFiled : Type 0
RollsAreFiled = (choose : Chooser) (history : List TimedCommand) (index : List ℕ) →
    let s : Catalog = (state_after choose history).catalog in contents_of (machine.roll index s) ≡ contents_of s

-- a thaw copies the archive
pub record IsThawed (s : Catalog) (index : List ℕ) (id : ℕ) (e : Entry) (archive : ℕ) (old : Contents) : Type 0 where
  pub fit : AreFitCopies old (contents_of s) (turning.thaw_copy e archive s.next_file ∷ [])
  pub lead : Forgets (with_copies (turning.thaw_copy e archive s.next_file ∷ []) (contents_of s)) (contents_of (machine.thaw index id s))

abbrev pub ThawsAreCopied : Type 0
ThawsAreCopied = (choose : Chooser) (history : List TimedCommand) (index : List ℕ) (id : ℕ) (slot : Slot) (e : Entry) (archive : ℕ)
    (old : Contents) →
    let s : Catalog = (state_after choose history).catalog in
    slice_get (slots_in s.indexes index) id ≡ Some slot → entered slot.standing ≡ Some e → e.archive ≡ Some archive →
    machine.thaws index id s ≡ true →
    HasNoneFrom s.next_file old → IsThawed s index id e archive old

-- ---- prefixes of a history

-- where two of them leave the same books, but for settings, they leave the same in the files
abbrev pub PrefixesAreFamily : Type 0
PrefixesAreFamily = (choose : Chooser) (history : List TimedCommand) → IsFamily (snapshot_of_prefix choose history) 0 (length history)

-- files that are still to come have nothing in what earlier commands left
abbrev pub EarlierHaveNone : Type 0
EarlierHaveNone = (choose : Chooser) (before later : List TimedCommand) →
    HasNoneFrom (state_after choose (before ++ later)).catalog.next_file (contents_of (state_after choose before).catalog)
