-- What a disk holds, what its calls do to that, and what a crash may leave.
use Rattle.std.specs.Prelude.{◌≡◌, ◌≢◌, ◌⊎◌, ◌≤◌, ◌+◌, ℕ, max, List, [], ◌++◌, length, take, drop, Option, None, Some}
use Rattle.ix_base.specs.declared.files.File.{File}

-- the bytes of each file of a disk, or that it is missing
abbrev pub Image : Type 0
Image = File → Option (List ℕ)

-- the bytes of a file; a missing one has none
abbrev pub content : Option (List ℕ) → List ℕ
content None = []
content (Some bytes) = bytes

-- the bytes that a read of the file gives: a missing one gives none
abbrev pub bytes_in : Image → File → List ℕ
bytes_in image file = content (image file)

-- every file is missing
abbrev pub nothing : Image
nothing file = None

-- every other file is as it was
abbrev pub Apart : File → Image → Image → Type 0
Apart file old new = (other : File) → other ≢ file → new other ≡ old other

-- What a write of n bytes that was begun may make of a file: any bytes in the range and past the
-- old end, the same elsewhere, and an end anywhere from the old one to that of the write.
pub record Torn (at n : ℕ) (old new : List ℕ) : Type 0 where
  pub before : take at new ≡ take at old
  pub after : drop (at + n) new ≡ drop (at + n) old
  pub no_shorter : length old ≤ length new
  pub no_longer : length new ≤ max (length old) (at + n)

-- these bytes with others over them at a place, past the end too
abbrev pub overwritten : ℕ → List ℕ → List ℕ → List ℕ
overwritten at bytes old = take at old ++ bytes ++ drop (at + length bytes) old

-- What a write that was begun may leave. Only a file that was missing may be missing.
pub record MayWrite (file : File) (at n : ℕ) (old new : Image) : Type 0 where
  pub others : Apart file old new
  pub torn : Torn at n (bytes_in old file) (bytes_in new file)
  pub missing : new file ≡ None → old file ≡ None

-- what a read gives after a write that succeeded
pub record Writes (file : File) (at : ℕ) (bytes : List ℕ) (old new : Image) : Type 0 where
  pub others : Apart file old new
  pub written : new file ≡ Some (overwritten at bytes (bytes_in old file))

-- what a removal that was begun may leave
pub record MayRemove (file : File) (old new : Image) : Type 0 where
  pub others : Apart file old new
  pub either : (new file ≡ old file) ⊎ (new file ≡ None)

-- what a read gives after a removal that succeeded
pub record Removes (file : File) (old new : Image) : Type 0 where
  pub others : Apart file old new
  pub gone : new file ≡ None

-- a call that changes no file
abbrev pub Stays : Image → Image → Type 0
Stays old new = new ≡ old

-- one of these images, after the step
abbrev pub Reached : (Image → Type 0) → (Image → Image → Type 0) → Image → Type 0
Reached images step image = (before : Image) × images before × step before image

-- From old to new the images have gone through the step: what a crash now may leave, and what one
-- at a moment in between might have left, is an image of old after the step.
pub record Passes {D : Type 0} (may_leave : D → Image → Type 0) (moment : D → ℕ) (left_since : D → ℕ → Image →
    Type 0) (old new : D) (step : Image → Image → Type 0) : Type 0 where
  pub later : moment old ≤ moment new
  pub now : (image : Image) → may_leave new image → Reached (may_leave old) step image
  pub since : (t : ℕ) (image : Image) → t ≤ moment old → left_since new t image → left_since old t image
      ⊎ Reached (may_leave old) step image
  pub keeps : (t : ℕ) (image : Image) → t ≤ moment old → left_since old t image → left_since new t image
