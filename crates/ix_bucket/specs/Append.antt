-- What an append does to the images of a disk.
use Rattle.std.specs.Prelude.{◌≡◌, ℕ, List, length, take, drop}
use Rattle.ix_base.specs.declared.files.File.{File}
use Rattle.ix_disk.specs.Image.{Image, bytes_in, Apart}

-- the bytes of the file before the place stay, and every other file
pub record Behind (file : File) (at : ℕ) (old new : Image) : Type 0 where
  pub others : Apart file old new
  pub front : take at (bytes_in new file) ≡ take at (bytes_in old file)

-- the file has these bytes at the place
abbrev pub HasAt : ℕ → List ℕ → List ℕ → Type 0
HasAt at bytes file = take (length bytes) (drop at file) ≡ bytes
