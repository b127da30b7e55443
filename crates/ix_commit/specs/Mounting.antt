-- What a mount finds, and the run that it begins.
use Rattle.std.specs.Prelude.{◌≡◌, ◌≢◌, ◌≤◌, ◌<◌, ◌⊎◌, ◌+◌, ◌-◌, ◌^◌, ℕ, true, false, List, [], Result, Err, not}
use Rattle.std.specs.List.{AllByRecursion}
use Rattle.ix_base.specs.declared.files.File.{File}
use Rattle.ix_items.specs.Spelling.{HasSpelling}
use Rattle.ix_items.specs.declared.items.Item.TheVariants as items
use Rattle.ix_disk.specs.Image.{Image, bytes_in}
use Rattle.ix_disk.specs.declared.disk.Disk.{Ghosts}
use Rattle.ix_log.specs.Log.{HasBodies, IsAtEnd, IsAsRead, file_of}
use Rattle.ix_manifest.specs.Book.{Name, NamedItems, empty, run_in, removals_in, has_settings, Replays}
use Rattle.ix_manifest.specs.Replaying.{IsBadGate, first_length}
use Rattle.ix_manifest.specs.Root.{Taken, roots, current, log_file, IsBadRoot}
use Rattle.ix_manifest.specs.Slots.{items_of}
use Rattle.ix_manifest.specs.declared.manifest_state.ReplayFault.{ReplayFault}
use Rattle.ix_manifest.specs.declared.manifest_state.ReplayFault.TheVariants as faults
use Rattle.ix_commit.specs.Reads.{first_items, next_run}
use Rattle.ix_commit.specs.Snapshot.{Snapshot, DecodesTo, Held, Stages, AreNoLogs, IsLike, with_item, begun, log_of}
use Rattle.ix_commit.specs.Undo.{HasSameLogs}
use Rattle.ix_commit.specs.declared.fault.CommitFault.{CommitFault}
use Rattle.ix_commit.specs.declared.fault.CommitFault.TheVariants as commits
use Rattle.ix_commit.specs.declared.committer.Committer.{Committer}
use Rattle.ix_commit.specs.declared.mounting.MountFault.{MountFault}
use Rattle.ix_commit.specs.declared.mounting.MountFault.TheVariants as mounts
use Rattle.ix_commit.specs.declared.mounting.PendingMount.{PendingMount}

-- What is kept stands for a snapshot: it is like it, or no body was written yet and it will be once
-- a new store's settings stand in it.
abbrev pub StandsFor : Snapshot → Snapshot → Type 0
StandsFor kept snapshot = IsLike kept snapshot ⊎ ((kept.book ≡ empty) × IsLike (with_item (items.Settings []) kept) snapshot)

-- the image keeps what stands for one of these snapshots, of this run or a later one
pub record KeepsOneOf (fits : NamedItems → Type 0) (run : ℕ) (family : ℕ → Snapshot) (from to : ℕ) (image : Image) : Type 0 where
  pub which : ℕ
  pub least : from ≤ which
  pub most : which ≤ to
  pub kept : Snapshot
  pub later : run ≤ run_in kept.book
  pub stands : StandsFor kept (family which)
  pub keeps : DecodesTo fits kept image

-- the same under each name but those of the settings, the run and the last removals
abbrev pub AreNear : NamedItems → NamedItems → Type 0
AreNear a b = (name : Name) → name.kind ≢ 1 → name.kind ≢ 2 → name.kind ≢ 12 → a name ≡ b name

-- The book tells the contents, nothing of them is in a log, and settings stand in it.
pub record IsFamily (family : ℕ → Snapshot) (from to : ℕ) : Type 0 where
  pub told : (i j : ℕ) → from ≤ i → i ≤ to → from ≤ j → j ≤ to → AreNear (family i).book (family j).book →
      (family i).contents ≡ (family j).contents
  pub apart : (i : ℕ) → from ≤ i → i ≤ to → AreNoLogs (family i).contents
  pub settled : (i : ℕ) → from ≤ i → i ≤ to → has_settings (family i).book ≡ true

-- every image keeps what stands for one of these snapshots
abbrev pub AllKeep : {D : Type 0} → Ghosts D → D → (NamedItems → Type 0) → ℕ → (ℕ → Snapshot) → ℕ → ℕ → Type 0
AllKeep g disk fits run family from to = (image : Image) → g.may_leave disk image → KeepsOneOf fits run family from to image

-- The logs were read to their ends, and the current one leads to this book.
pub record IsRead {D : Type 0} (g : Ghosts D) (fits : NamedItems →
    Type 0) (committer : Committer) (disk : D) (book : NamedItems) : Type 0 where
  pub checkpoints : ℕ
  pub number : committer.number ≡ checkpoints + 1
  pub root_file : file_of committer.root ≡ log_file 0
  pub root : IsAtEnd g committer.root disk (roots checkpoints)
  pub file : log_of committer ≡ current checkpoints
  pub bodies : List (List ℕ)
  pub end : IsAtEnd g committer.log disk bodies
  pub replayed : Replays (Taken fits (log_of committer)) bodies empty book
  pub measured : committer.first ≡ first_length bodies
  pub settled : IsAsRead g disk (log_of committer)
  pub usable : committer.closed ≡ false
  pub no_parts : committer.parts ≡ []
  pub no_copies : committer.copies ≡ []
  pub no_slots : committer.slots ≡ []

-- The body that begins the run behind a book is staged, and with it the book is this one, which the
-- state above takes.
pub record BeginsRun (fits : NamedItems → Type 0) (committer : Committer) (book now : NamedItems) : Type 0 where
  pub room : run_in book < 2 ^ 63 - 1
  pub is : now ≡ next_run book
  pub taken : fits now
  pub items : items_of committer.slots ≡ first_items (not (has_settings book)) (run_in book + 1)
  pub proper : AllByRecursion HasSpelling (items_of committer.slots)
  pub staged : (s : Snapshot) → s.book ≡ book → Stages committer s (begun (not (has_settings book)) (run_in book + 1) s)

-- The run of a book is the last one, or the state above does not take the book with the next one.
abbrev pub HasNoNext : (NamedItems → Type 0) → NamedItems → NamedItems → Type 0
HasNoNext fits book now = ((2 ^ 63 - 1 ≤ run_in book) × (now ≡ book)) ⊎ ((now ≡ next_run book) × (fits now → ⊥))

-- A mount has read the logs, and they lead to a book. It has staged what begins the next run, or
-- there is no room for that. Nothing of it is written: with it the book is this one.
pub record IsPending {D : Type 0} (g : Ghosts D) (fits : NamedItems →
    Type 0) (pending : PendingMount) (disk : D) (now : NamedItems) : Type 0 where
  pub book : NamedItems
  pub as_read : Committer
  pub read : IsRead g fits as_read disk book
  pub logs : HasSameLogs as_read pending.committer
  pub no_parts : pending.committer.parts ≡ []
  pub no_copies : pending.committer.copies ≡ []
  pub removals : pending.removals ≡ removals_in book
  pub room : pending.has_room ≡ true → BeginsRun fits pending.committer book now
  pub none : pending.has_room ≡ false → HasNoNext fits book now

-- The committer holds what stands for the snapshot that the disk's own reading keeps, with the next
-- run.
pub record IsMountedAt {D : Type 0} (g : Ghosts D) (fits : NamedItems →
    Type 0) (committer : Committer) (disk : D) (book : NamedItems) (family : ℕ → Snapshot) (from to : ℕ) (image : Image) : Type 0 where
  pub which : ℕ
  pub least : from ≤ which
  pub most : which ≤ to
  pub kept : Snapshot
  pub keeps : DecodesTo fits kept image
  pub stands : StandsFor kept (family which)
  pub now : Snapshot
  pub like : IsLike now (family which)
  pub run : run_in now.book ≡ run_in kept.book + 1
  pub held : Held g fits committer disk now now
  pub made : book ≡ now.book

-- what a mount's fault at a gate says of the image that was read: the root log or the current one
-- has a bad gate there
abbrev pub IsBadLog : (NamedItems → Type 0) → File → ℕ → Image → Type 0
IsBadLog fits file at image =
    ((file ≡ log_file 0) × IsBadRoot at (bytes_in image (log_file 0)))
    ⊎ ((k : ℕ) × HasBodies (roots k) (bytes_in image (log_file 0)) × (file ≡ current k)
    × IsBadGate (Taken fits (current k)) empty at (bytes_in image (current k)))

abbrev pub as_mount : File → ReplayFault → MountFault
as_mount file faults.Disk = mounts.Disk
as_mount file (faults.Damaged at) = mounts.Damaged file at
as_mount file faults.NoMemory = mounts.NoMemory

abbrev pub as_mount_too : CommitFault → MountFault
as_mount_too commits.Disk = mounts.Disk
as_mount_too (commits.Damaged file at) = mounts.Damaged file at

abbrev pub IsBadMount : {T : Type 0} → Result T MountFault → File → ℕ → Type 0
IsBadMount result file at = result ≡ Err (mounts.Damaged file at)
