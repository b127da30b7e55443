-- What a copy of a file's first bytes is.
use Rattle.std.specs.Prelude.{◌≡◌, ◌≤◌, ℕ, List, length, take, Some}
use Rattle.ix_base.specs.declared.files.File.{File}
use Rattle.ix_disk.specs.Image.{Image, bytes_in}
use Rattle.ix_disk.specs.declared.disk.Disk.{Ghosts}
use Rattle.ix_archive.specs.declared.copying.CopyFault.{CopyFault}
use Rattle.ix_archive.specs.declared.copying.CopyFault.TheVariants.{Disk, Short}

-- the target has the first so many bytes of the source, and the source has so many
pub record HasFirst (len : ℕ) (source target : List ℕ) : Type 0 where
  pub long : len ≤ length source
  pub same : take len target ≡ take len source

-- the image has them at the target, as a read of the source gave them before
pub record HasCopy {D : Type 0} (g : Ghosts D) (before : D) (from to : File) (len : ℕ) (image : Image) : Type 0 where
  pub read : Image
  pub told : g.seen before ≡ Some read
  pub bytes : HasFirst len (bytes_in read from) (bytes_in image to)

-- what is so of the length of a source that is too short
abbrev pub OnShort : CopyFault → (ℕ → Type 0) → Type 0
OnShort Disk P = Unit {0}
OnShort (Short at) P = P at

-- what lies between two places of the source was copied too, and the source is as it was
pub record Moves (from to : File) (at next : ℕ) (old new : Image) : Type 0 where
  pub source : bytes_in new from ≡ bytes_in old from
  pub target : HasFirst at (bytes_in old from) (bytes_in old to) → HasFirst next (bytes_in old from) (bytes_in new to)
