-- What stands in the log of a store: the book of a history, with a run and last removals.
use Rattle.std.specs.Prelude.{◌≡◌, ◌+◌, ℕ, if◌then◌else◌, List, [], length, Option, Some, None, true, false}
use Rattle.std.specs.List.{AllByRecursion}
use Rattle.ix_base.specs.declared.files.File.{File}
use Rattle.ix_items.specs.declared.items.Item.{Item}
use Rattle.ix_items.specs.declared.items.Item.TheVariants as items
use Rattle.ix_disk.specs.Image.{Image}
use Rattle.ix_disk.specs.declared.disk.Disk.{Ghosts}
use Rattle.ix_manifest.specs.Book.{NamedItems, named, is_same, run_in}
use Rattle.ix_commit.specs.Reads.{LeadsTo}
use Rattle.ix_commit.specs.Mounting.{KeepsOneOf}
use Rattle.ix_commit.specs.Snapshot.{Snapshot, DecodesTo}
use Rattle.ix_model.specs.Given.{Chooser}
use Rattle.ix_model.specs.State.{Catalog}
use Rattle.ix_model.specs.declared.commands.TimedCommand.{TimedCommand}
use Rattle.ix_model.specs.Done.{IsDone, is_filed}
use Rattle.ix_model.specs.Snap.{snapshot_of, snapshot_of_prefix}

-- the book, under which a run and perhaps last removals stand too
abbrev pub over : ℕ → Option Item → NamedItems → NamedItems
over run removed book name =
    if is_same (named 2 [] 0) name then Some (items.Run run)
    else if is_same (named 12 [] 0) name then removed
    else book name

-- a snapshot that a run has written, of what a history leaves
pub record IsOf (run : ℕ) (snapshot history : Snapshot) : Type 0 where
  pub removed : Option Item
  pub book : snapshot.book ≡ over run removed history.book
  pub contents : snapshot.contents ≡ history.contents

-- An image stands for a run and a history.
pub record RecoversTo (fits : NamedItems → Type 0) (run : ℕ) (choose : Chooser) (history : List TimedCommand) (image : Image) : Type 0 where
  pub snapshot : Snapshot
  pub written : IsOf run snapshot (snapshot_of choose history)
  pub keeps : DecodesTo fits snapshot image

-- An image stands for a prefix with at least so many commands, and for this run or a later one; a
-- disk on which nothing was written yet stands for none, which is before all runs.
abbrev pub RecoversToPrefix : (NamedItems → Type 0) → ℕ → Chooser → List TimedCommand → ℕ → Image → Type 0
RecoversToPrefix fits run choose history k image = KeepsOneOf fits run (snapshot_of_prefix choose history) k (length history) image

-- this is the run behind the one that the image keeps, which is 0 where no body counts
pub record IsNextRun (fits : NamedItems → Type 0) (run : ℕ) (image : Image) : Type 0 where
  pub found : NamedItems
  pub leads : LeadsTo fits found image
  pub is : run ≡ run_in found + 1

-- as the disk reads, each file that a bucket or an archive has in the one, and none in the other,
-- is gone
abbrev pub AreGone : {D : Type 0} → Ghosts D → D → Catalog → Catalog → Type 0
AreGone d disk old new = (image : Image) → d.seen disk ≡ Some image → (file : File) → is_filed old file ≡ true → is_filed new file ≡ false →
    image file ≡ None

-- files that are done with
abbrev pub AreDone : Catalog → List File → Type 0
AreDone catalog files = AllByRecursion (IsDone catalog) files
