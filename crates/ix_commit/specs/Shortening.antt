-- A checkpoint: the state in a log of one body.
use Rattle.std.specs.Prelude.{◌≡◌, ◌≤◌, ◌+◌, ◌*◌, ◌↔◌, ℕ, false, List, [], ◌∷◌, length, Some}
use Rattle.ix_base.specs.declared.files.File.{File}
use Rattle.ix_items.specs.declared.items.Item.{Item}
use Rattle.ix_disk.specs.Image.{Image, bytes_in}
use Rattle.ix_disk.specs.declared.disk.Disk.{Ghosts}
use Rattle.ix_log.specs.Log.{HasBodies}
use Rattle.ix_manifest.specs.Book.{Name, NamedItems, named, is_same, empty, replay}
use Rattle.ix_manifest.specs.Replaying.{first_length}
use Rattle.ix_manifest.specs.Whole.{removal}
use Rattle.ix_commit.specs.Snapshot.{Snapshot, LogsAtEnd, KnowsLogLength, IsLong, with_item, log_of}
use Rattle.ix_commit.specs.declared.committer.Committer.{Committer}

-- the same, with the old log as the one file that is done with
abbrev pub shortened : File → Snapshot → Snapshot
shortened log snapshot = with_item (removal log) snapshot

-- The items are the whole state: they lead to the book, but for the last removals.
abbrev pub Tells : List Item → NamedItems → Type 0
Tells told book = (name : Name) → is_same (named 12 [] 0) name ≡ false → replay told empty name ≡ book name

-- The file is a log of one body, and nothing stands behind the gate that follows it.
pub record HasOneBody (file : List ℕ) : Type 0 where
  pub body : List ℕ
  pub bodies : HasBodies (body ∷ []) file
  pub size : length file ≡ length body + 6

-- as the disk reads, the committer's log is such a one
abbrev pub IsShortest : {D : Type 0} → Ghosts D → Committer → D → Type 0
IsShortest g committer disk = (image : Image) → g.seen disk ≡ Some image → HasOneBody (bytes_in image (log_of committer))

-- A log is long: it has 8,388,608 bytes or more, and twice the bytes of its first body or more.
pub record IsLongLog (file : List ℕ) : Type 0 where
  pub most : 8388608 ≤ length file
  pub twice : (bodies : List (List ℕ)) → HasBodies bodies file → 2 * first_length bodies ≤ length file

-- What the committer wants goes by its log as the disk reads.
abbrev pub TellsLong : {D : Type 0} → Ghosts D → Type 0
TellsLong {D} g = (committer : Committer) (disk : D) (image : Image) → LogsAtEnd g committer disk → KnowsLogLength g committer disk →
    g.seen disk ≡ Some image →
    (IsLong committer.bytes committer.first ↔ IsLongLog (bytes_in image (log_of committer)))
