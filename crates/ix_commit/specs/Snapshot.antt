-- What a disk keeps of a store, and what a committer holds of it.
use Rattle.std.specs.Prelude.{◌≡◌, ◌≢◌, ◌⊎◌, ◌<◌, ◌≤◌, ◌+◌, ◌*◌, ℕ, Bool, true, false, List, [], length, Option, Some, All, if◌then◌else◌}
use Rattle.std.specs.List.{AllByRecursion}
use Rattle.ix_base.specs.declared.files.Area.TheVariants.{Meta}
use Rattle.ix_base.specs.declared.files.File.{File}
use Rattle.ix_items.specs.Spelling.{HasSpelling}
use Rattle.ix_items.specs.declared.items.Item.{Item}
use Rattle.ix_items.specs.declared.items.Item.TheVariants as items
use Rattle.ix_disk.specs.Image.{Image, bytes_in}
use Rattle.ix_disk.specs.Files.{is_same}
use Rattle.ix_disk.specs.declared.disk.Disk.{Ghosts}
use Rattle.ix_log.specs.Log.{HasBodies, IsAtEnd, file_of}
use Rattle.ix_log.specs.declared.log.Log.{Log}
use Rattle.ix_manifest.specs.Book.{Name, NamedItems, empty, after_item, replay, removals_in, Replays}
use Rattle.ix_manifest.specs.Root.{Taken, roots, current, log_file}
use Rattle.ix_manifest.specs.Slots.{items_of}
use Rattle.ix_manifest.specs.Replaying.{first_length}
use Rattle.ix_commit.specs.Contents.{Contents, Filling, filling, HasFilling, HoldsFilling, IsFree}
use Rattle.ix_commit.specs.Parts.{AreParts}
use Rattle.ix_commit.specs.Copies.{AreCopies, after_copies}
use Rattle.ix_commit.specs.declared.committer.Committer.{Committer}

-- what the log leads to, and what the files of buckets and archives begin with
pub record Snapshot : Type 0 where
  pub book : NamedItems
  pub contents : Contents

-- the files that the last removals name may go
abbrev pub AreFree : File → Snapshot → Type 0
AreFree log snapshot = All (IsFree log snapshot.contents) (removals_in snapshot.book)

-- An image from which that snapshot is read: the root log names the current one, whose bodies lead
-- to the book, each through a book that fits; and each file begins with its bytes.
pub record DecodesTo (fits : NamedItems → Type 0) (snapshot : Snapshot) (image : Image) : Type 0 where
  pub checkpoints : ℕ
  pub in_root : HasBodies (roots checkpoints) (bytes_in image (log_file 0))
  pub bodies : List (List ℕ)
  pub in_log : HasBodies bodies (bytes_in image (current checkpoints))
  pub replayed : Replays (Taken fits (current checkpoints)) bodies empty snapshot.book
  pub contents : HasFilling (filling snapshot.contents) image
  pub free : AreFree (current checkpoints) snapshot

-- one of the two
abbrev pub KeepsEither : (NamedItems → Type 0) → Snapshot → Snapshot → Image → Type 0
KeepsEither fits old new image = DecodesTo fits old image ⊎ DecodesTo fits new image

-- the file of the committer's log
abbrev pub log_of : Committer → File
log_of committer = file_of committer.log

-- no file of a log has bytes of a bucket
abbrev pub AreNoLogs : Contents → Type 0
AreNoLogs contents = (file : File) → file.area ≡ Meta → filling contents file ≡ []

-- Every image keeps the snapshot, the root log stands at the end of its numbers, and the current
-- log at the end of its bodies.
pub record IsCommitted {D : Type 0} (g : Ghosts D) (fits : NamedItems →
    Type 0) (committer : Committer) (disk : D) (snapshot : Snapshot) : Type 0 where
  pub checkpoints : ℕ
  pub number : committer.number ≡ checkpoints + 1
  pub root_file : file_of committer.root ≡ log_file 0
  pub root : IsAtEnd g committer.root disk (roots checkpoints)
  pub file : log_of committer ≡ current checkpoints
  pub bodies : List (List ℕ)
  pub end : IsAtEnd g committer.log disk bodies
  pub replayed : Replays (Taken fits (current checkpoints)) bodies empty snapshot.book
  pub contents : HoldsFilling g disk (filling snapshot.contents)
  pub apart : AreNoLogs snapshot.contents
  pub free : AreFree (current checkpoints) snapshot

-- What is staged leads from the one snapshot to the other: bytes behind the committed ones, then
-- copies, and items.
pub record Stages (committer : Committer) (old new : Snapshot) : Type 0 where
  pub grown : Filling
  pub parts : AreParts (filling old.contents) grown committer.parts
  pub copies : AreCopies (filling old.contents) grown committer.copies
  pub live : (file : File) (bytes : List ℕ) → new.contents file ≡ Some bytes → after_copies committer.copies grown file ≡ bytes
  pub items : new.book ≡ replay (items_of committer.slots) old.book
  pub proper : AllByRecursion HasSpelling (items_of committer.slots)

-- The disk keeps the old snapshot, whatever a crash does, and the committer has staged what leads
-- to the new one, which fits where a body is to be written.
pub record Held {D : Type 0} (g : Ghosts D) (fits : NamedItems →
    Type 0) (committer : Committer) (disk : D) (old new : Snapshot) : Type 0 where
  pub usable : committer.closed ≡ false
  pub committed : IsCommitted g fits committer disk old
  pub stages : Stages committer old new
  pub fit : 0 < length committer.slots → Taken fits (log_of committer) new.book
  pub free : AreFree (log_of committer) new

-- nothing is staged
abbrev pub NothingStaged : Committer → Type 0
NothingStaged committer = (committer.parts ≡ []) × ((committer.copies ≡ []) × (committer.slots ≡ []))

-- The logs stand at the ends of their bodies, in every image: what holds from a mount on, as long
-- as nobody else writes there.
pub record AreOver {D : Type 0} (g : Ghosts D) (root log : Log) (number first : ℕ) (disk : D) : Type 0 where
  pub checkpoints : ℕ
  pub counted : number ≡ checkpoints + 1
  pub root_file : file_of root ≡ log_file 0
  pub file : file_of log ≡ log_file number
  pub root_end : IsAtEnd g root disk (roots checkpoints)
  pub bodies : List (List ℕ)
  pub end : IsAtEnd g log disk bodies
  pub measured : first ≡ first_length bodies
  pub none : first ≡ 0 → bodies ≡ []

abbrev pub LogsAtEnd : {D : Type 0} → Ghosts D → Committer → D → Type 0
LogsAtEnd g committer disk = AreOver g committer.root committer.log committer.number committer.first disk

-- the committer knows how long the file of its log is, as the disk reads
abbrev pub KnowsLogLength : {D : Type 0} → Ghosts D → Committer → D → Type 0
KnowsLogLength g committer disk = (image : Image) → g.seen disk ≡ Some image → committer.bytes ≡ length (bytes_in image (log_of committer))

-- A log of so many bytes, so many of them in its first body, is long.
pub record IsLong (bytes first : ℕ) : Type 0 where
  pub most : 8388608 ≤ bytes
  pub twice : 2 * first ≤ bytes

-- Steps of snapshots.

-- an item more
abbrev pub with_item : Item → Snapshot → Snapshot
with_item item snapshot = record { book = after_item item snapshot.book; contents = snapshot.contents }

-- these bytes in a file
abbrev pub with_file : File → Option (List ℕ) → Contents → Contents
with_file file bytes contents other = if is_same other file then bytes else contents other

-- what is said of the files is less, or the same
abbrev pub Forgets : Contents → Contents → Type 0
Forgets old new = (file : File) (bytes : List ℕ) → new file ≡ Some bytes → old file ≡ Some bytes

-- The same but for the run and the last removals, which no history tells.
pub record IsLike (a b : Snapshot) : Type 0 where
  pub books : (name : Name) → name.kind ≢ 2 → name.kind ≢ 12 → a.book name ≡ b.book name
  pub contents : a.contents ≡ b.contents

-- the snapshot from which this run writes: a new store has settings too, none at first
abbrev pub begun : Bool → ℕ → Snapshot → Snapshot
begun true run snapshot = with_item (items.Run run) (with_item (items.Settings []) snapshot)
begun false run snapshot = with_item (items.Run run) snapshot
