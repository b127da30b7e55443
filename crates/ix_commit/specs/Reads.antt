-- What a read gives of the files, behind the calls of a committer.
use Rattle.std.specs.Prelude.{◌≡◌, ◌≢◌, ◌⊎◌, ◌<◌, ◌≤◌, ◌+◌, ◌-◌, ◌^◌, ℕ, Bool, true, false, List, [], ◌∷◌, None, Some, All, not}
use Rattle.ix_base.specs.declared.files.File.{File}
use Rattle.ix_items.specs.declared.items.Item.{Item}
use Rattle.ix_items.specs.declared.items.Item.TheVariants as items
use Rattle.ix_disk.specs.Image.{Image, bytes_in}
use Rattle.ix_disk.specs.declared.disk.Disk.{Ghosts}
use Rattle.ix_log.specs.Log.{HasBodies}
use Rattle.ix_manifest.specs.Book.{NamedItems, empty, replay, run_in, has_settings, Replays}
use Rattle.ix_manifest.specs.Root.{Taken, IsNoLog, roots, current, log_file}
use Rattle.ix_commit.specs.Parts.{file_in}
use Rattle.ix_commit.specs.Copies.{target}
use Rattle.ix_commit.specs.declared.file_copy.FileCopy.{FileCopy}
use Rattle.ix_commit.specs.declared.staged_append.StagedAppend.{StagedAppend}

-- a file is as it was, or gone
abbrev pub OrGone : File → Image → Image → Type 0
OrGone file old new = (new file ≡ old file) ⊎ (new file ≡ None)

-- so is each file
abbrev pub Removing : Image → Image → Type 0
Removing old new = (file : File) → OrGone file old new

-- nothing is staged for the file: no bytes, and no copy to it
abbrev pub IsElsewhere : List StagedAppend → List FileCopy → File → Type 0
IsElsewhere parts copies file = All (λ part. file ≢ file_in part) parts × All (λ copied. file ≢ target copied) copies

-- a file that may be removed is gone
abbrev pub IsGone : File → Image → File → Type 0
IsGone log image file = IsNoLog log file → image file ≡ None

-- as the disk reads, those of these files that may be removed are gone
abbrev pub ReadsNone : {D : Type 0} → Ghosts D → D → File → List File → Type 0
ReadsNone g disk log files = (image : Image) → g.seen disk ≡ Some image → All (IsGone log image) files

-- The image leads to this book: its root log names the current one, all of whose bodies lead there,
-- each through a book that fits.
pub record LeadsTo (fits : NamedItems → Type 0) (book : NamedItems) (image : Image) : Type 0 where
  pub checkpoints : ℕ
  pub in_root : HasBodies (roots checkpoints) (bytes_in image (log_file 0))
  pub bodies : List (List ℕ)
  pub in_log : HasBodies bodies (bytes_in image (current checkpoints))
  pub replayed : Replays (Taken fits (current checkpoints)) bodies empty book

-- the items that begin a run: in a new store there are settings too, none at first
abbrev pub first_items : Bool → ℕ → List Item
first_items true run = items.Settings [] ∷ items.Run run ∷ []
first_items false run = items.Run run ∷ []

-- the book once its next run has begun
abbrev pub next_run : NamedItems → NamedItems
next_run book = replay (first_items (not (has_settings book)) (run_in book + 1)) book

-- The image leads to a book whose next run has a number, and which then is this one, which the
-- state above takes.
pub record IsBegunFrom (fits : NamedItems → Type 0) (image : Image) (now : NamedItems) : Type 0 where
  pub book : NamedItems
  pub leads : LeadsTo fits book image
  pub room : run_in book < 2 ^ 63 - 1
  pub is : now ≡ next_run book
  pub taken : fits now

-- The image leads to a book whose next run has no number, or which the state above does not take
-- once that run has begun.
pub record HasNoRun (fits : NamedItems → Type 0) (image : Image) : Type 0 where
  pub book : NamedItems
  pub leads : LeadsTo fits book image
  pub none : (2 ^ 63 - 1 ≤ run_in book) ⊎ (fits (next_run book) → ⊥)
