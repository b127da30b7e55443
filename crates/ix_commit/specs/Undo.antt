-- What was staged by a command that failed is taken back.
use Rattle.std.specs.Prelude.{◌≡◌, List, ◌++◌, length, map}
use Rattle.ix_commit.specs.declared.file_copy.FileCopy.{FileCopy}
use Rattle.ix_commit.specs.declared.committer.Committer.{Committer}
use Rattle.ix_commit.specs.declared.committer.Savepoint.{Savepoint}
use Rattle.ix_manifest.specs.declared.staged_item.StagedItem.{StagedItem}
use Rattle.ix_commit.specs.Cuts.{len_in, Grew}

-- all but what is staged, and how long the log was found, is the same
pub record HasSameLogs (a b : Committer) : Type 0 where
  pub root : b.root ≡ a.root
  pub log : b.log ≡ a.log
  pub number : b.number ≡ a.number
  pub first : b.first ≡ a.first
  pub closed : b.closed ≡ a.closed

-- the second has all that the first has, and more staged
pub record GrewTo (a b : Committer) : Type 0 where
  pub logs : HasSameLogs a b
  pub bytes : b.bytes ≡ a.bytes
  pub parts : Grew a.parts b.parts
  pub more_copies : List FileCopy
  pub copies : b.copies ≡ a.copies ++ more_copies
  pub more_slots : List StagedItem
  pub slots : b.slots ≡ a.slots ++ more_slots

-- what the committer had staged then
pub record IsMarkOf (mark : Savepoint) (committer : Committer) : Type 0 where
  pub lens : mark.lens.items ≡ map len_in committer.parts
  pub copies : mark.copies ≡ length committer.copies
  pub slots : mark.slots ≡ length committer.slots
  pub size : mark.size ≡ committer.size

-- the same is staged
pub record IsSame (a b : Committer) : Type 0 where
  pub logs : HasSameLogs a b
  pub bytes : b.bytes ≡ a.bytes
  pub parts : b.parts ≡ a.parts
  pub copies : b.copies ≡ a.copies
  pub slots : b.slots ≡ a.slots
