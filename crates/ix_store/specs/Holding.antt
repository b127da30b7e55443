-- What a store holds.
use Rattle.std.specs.Prelude.{◌≡◌, ◌≤◌, ◌<◌, ◌+◌, ◌^◌, ◌||◌, ℕ, Bool, false, nat_lt, List, length, drop, take, Some, None, if◌then◌else◌}
use Rattle.ix_base.specs.declared.files.Area.TheVariants.{Meta}
use Rattle.ix_disk.specs.Image.{Image}
use Rattle.ix_disk.specs.declared.disk.Disk.{Ghosts}
use Rattle.ix_manifest.specs.Book.{NamedItems, empty, removals_in, replay, run_in}
use Rattle.ix_manifest.specs.Root.{Taken}
use Rattle.ix_manifest.specs.Slots.{items_of}
use Rattle.ix_commit.specs.Mounting.{StandsFor}
use Rattle.ix_commit.specs.Snapshot.{Snapshot, DecodesTo, IsCommitted, Stages, AreFree, NothingStaged, log_of}
use Rattle.ix_commit.specs.Undo.{IsSame, HasSameLogs}
use Rattle.ix_commit.specs.declared.committer.Committer.{Committer}
use Rattle.ix_model.specs.Bounds.{IsAllowed}
use Rattle.ix_model.specs.Done.{AreLetGo}
use Rattle.ix_model.specs.Given.{Chooser}
use Rattle.ix_model.specs.Judged.{draws, moved}
use Rattle.ix_model.specs.Step.{state_after, effective}
use Rattle.ix_model.specs.declared.answers.Accepted.{Accepted}
use Rattle.ix_model.specs.declared.commands.TimedCommand.{TimedCommand}
use Rattle.ix_model.specs.Snap.{snapshot_of, snapshot_of_prefix}
use Rattle.ix_store.specs.Counting.{numbers, weights, has_turn, capped}
use Rattle.ix_store.specs.Making.{with_order}
use Rattle.ix_store.specs.Written.{IsOf, AreDone}
use Rattle.ix_store.specs.declared.group.CommitGroup.{CommitGroup}
use Rattle.ix_store.specs.declared.store.Store.{Store}

-- whether an earlier call met a fault of the disk, or damage
abbrev pub is_closed : {M : Type 0} → Store M → Bool
is_closed store = store.committer.closed || store.closed

-- The numbers of a run that began behind the first `base` commands of a history, of which k are
-- committed.
pub record AreCounted (drawn committed : ℕ) (group : CommitGroup) (history : List TimedCommand) (base k : ℕ) : Type 0 where
  pub drawn_are : drawn ≡ numbers (drop base history)
  pub committed_are : committed ≡ numbers (drop base (take k history))
  pub weight : group.weight ≡ capped (weights (drop k history))
  pub turned : group.turned ≡ has_turn (drop k history)
  pub waiting : group.waiting ≡ nat_lt k (length history)

-- What a committer has staged: it leads from one snapshot to another, which may be committed.
pub record IsReady (fits : NamedItems → Type 0) (committer : Committer) (old new : Snapshot) : Type 0 where
  pub usable : committer.closed ≡ false
  pub logged : (log_of committer).area ≡ Meta
  pub stages : Stages committer old new
  pub fit : 0 < length committer.slots → Taken fits (log_of committer) new.book
  pub free : AreFree (log_of committer) new

-- The part of `Represents` of which the disk is no part: memory holds a history, and the committer
-- has staged what leads to what it leaves from what its first k commands leave.
pub record RepresentsStaged {M : Type 0} (fits : NamedItems → Type 0) (holds : Chooser → List TimedCommand → M →
    Type 0) (choose : Chooser) (history : List TimedCommand) (base k : ℕ) (store : Store M) (old : Snapshot) : Type 0 where
  pub from_base : base ≤ k
  pub within : k ≤ length history
  pub memory : holds choose history store.memory
  pub old_is : IsOf store.run old (snapshot_of_prefix choose history k)
  pub new : Snapshot
  pub new_is : IsOf store.run new (snapshot_of choose history)
  pub run : store.run < 2 ^ 63
  pub is_open : store.closed ≡ false
  pub ready : IsReady fits store.committer old new
  pub idle : k ≡ length history → NothingStaged store.committer
  pub done : AreDone (state_after choose history).catalog store.group.done_with
  -- the staged removals are these files, and each that goes with the commands that are not
  -- committed is one of them
  pub removals : removals_in (replay (items_of store.committer.slots) empty) ≡ store.group.done_with
  pub let_go : AreLetGo (state_after choose (take k history)).catalog (state_after choose history).catalog store.group.done_with
  pub counted : AreCounted store.drawn store.committed store.group history base k

-- A store and a disk hold a history, of which the first `base` commands were there when the store
-- was mounted, and the first k are committed.
pub record Represents {D : Type 0} (d : Ghosts D) {M : Type 0} (fits : NamedItems → Type 0) (holds : Chooser → List TimedCommand → M →
    Type 0) (choose : Chooser) (history : List TimedCommand) (base k : ℕ) (store : Store M) (disk : D) : Type 0 where
  pub old : Snapshot
  pub committed : IsCommitted d fits store.committer disk old
  pub staged : RepresentsStaged fits holds choose history base k store old

-- what a run answers to an accepted command
pub record IsAnswer (run drawn : ℕ) (choose : Chooser) (history : List TimedCommand) (order : TimedCommand) (answer : Accepted) : Type 0
  where
    pub run_is : answer.run ≡ run
    pub number : answer.number ≡ (if draws order.command then Some drawn else None)
    pub moved_are : answer.moved ≡ moved (state_after choose history) order.command
        (effective (state_after choose history).last order.moment)

-- What a store holds: a history, of which the first `base` commands were there when the store was
-- mounted, and the first `kept` are committed.
pub record Holding : Type 0 where
  pub choose : Chooser
  pub history : List TimedCommand
  pub base : ℕ
  pub kept : ℕ

abbrev pub holding : Chooser → List TimedCommand → ℕ → ℕ → Holding
holding choose history base kept = record { choose = choose; history = history; base = base; kept = kept }

-- A command that was accepted behind that: the store holds the longer history, with as much of it
-- committed as before.
pub record IsAccepted {M : Type 0} (fits : NamedItems → Type 0) (holds : Chooser → List TimedCommand → M → Type 0) (was : Holding)
    (order : TimedCommand) (before store : Store M) (old : Snapshot) (answer : Accepted) : Type 0 where
  pub allowed : IsAllowed was.choose false before.drawn (state_after was.choose was.history) order
  pub answers : IsAnswer before.run before.drawn was.choose was.history order answer
  pub staged : RepresentsStaged fits holds was.choose (with_order was.choose was.history order) was.base was.kept store old

-- The two hold the same, and have the same staged.
pub record IsUnchanged {M : Type 0} (before store : Store M) : Type 0 where
  pub memory : store.memory ≡ before.memory
  pub committer : IsSame before.committer store.committer
  pub run : store.run ≡ before.run
  pub drawn : store.drawn ≡ before.drawn
  pub committed : store.committed ≡ before.committed
  pub group : store.group ≡ before.group
  pub closed : store.closed ≡ before.closed

-- all but what is staged, and the state in memory, is the same
pub record HasSameRun {M : Type 0} (before store : Store M) : Type 0 where
  pub logs : HasSameLogs before.committer store.committer
  pub run : store.run ≡ before.run
  pub drawn : store.drawn ≡ before.drawn
  pub committed : store.committed ≡ before.committed
  pub closed : store.closed ≡ before.closed

-- A store was mounted: it holds the prefix for which the disk's own reading stands, all of it
-- committed, and begins the run behind the one that was found.
pub record IsMounted {D : Type 0} (d : Ghosts D) {M : Type 0} (fits : NamedItems → Type 0) (holds : Chooser → List TimedCommand → M →
    Type 0) (choose : Chooser) (history : List TimedCommand) (k : ℕ) (image : Image) (store : Store M) (disk : D) : Type 0 where
  pub count : ℕ
  pub least : k ≤ count
  pub most : count ≤ length history
  pub found : Snapshot
  pub keeps : DecodesTo fits found image
  pub stands : StandsFor found (snapshot_of_prefix choose history count)
  pub run : store.run ≡ run_in found.book + 1
  pub hold : Represents d fits holds choose (take count history) count count store disk
