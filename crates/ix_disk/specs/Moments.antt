-- What is said of a run of a disk's calls. Each word takes the disk's ghost members first, as
-- `D.Disk` under `D: Disk`.
use Rattle.std.specs.Prelude.{◌≡◌, ◌⊎◌, ◌≤◌, ℕ, List, Some}
use Rattle.ix_base.specs.declared.files.File.{File}
use Rattle.ix_disk.specs.Image.{Image, bytes_in, Apart, Passes}
use Rattle.ix_disk.specs.declared.disk.Disk.{Ghosts}

-- from old to new the images of the disk have gone through the step
abbrev pub ImagesStep : {D : Type 0} → Ghosts D → D → D → (Image → Image → Type 0) → Type 0
ImagesStep g old new step = Passes g.may_leave g.moment g.left_since old new step

-- the file holds what has P, and every other file is as it was
pub record InFile (file : File) (P : List ℕ → Type 0) (old new : Image) : Type 0 where
  pub others : Apart file old new
  pub holds : P (bytes_in new file)

-- every image that a crash now may leave holds what has P in the file
abbrev pub Holds : {D : Type 0} → Ghosts D → D → File → (List ℕ → Type 0) → Type 0
Holds g disk file P = (image : Image) → g.may_leave disk image → P (bytes_in image file)

-- what a read of the file gives, where the disk tells it, has P
abbrev pub Reads : {D : Type 0} → Ghosts D → D → File → (List ℕ → Type 0) → Type 0
Reads g disk file P = (image : Image) → g.seen disk ≡ Some image → P (bytes_in image file)

-- Every image of a moment from old to new has P, and so has each that a crash now may leave.
-- `since` speaks of runs that began before old, so that such facts join.
pub record Always {D : Type 0} (g : Ghosts D) (old new : D) (P : Image → Type 0) : Type 0 where
  pub later : g.moment old ≤ g.moment new
  pub now : (image : Image) → g.may_leave new image → P image
  pub since : (t : ℕ) (image : Image) → t ≤ g.moment old → g.left_since new t image → g.left_since old t image ⊎ P image
