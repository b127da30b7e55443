-- Bytes that are copied to files of their own, one copy behind the other.
use Rattle.std.specs.Prelude.{◌≡◌, ◌≢◌, ◌≤◌, List, [], ◌∷◌, length, take}
use Rattle.ix_base.specs.declared.files.Area.{Area}
use Rattle.ix_base.specs.declared.files.Area.TheVariants as areas
use Rattle.ix_base.specs.declared.files.File.{File}
use Rattle.ix_commit.specs.Contents.{Filling, put_in}
use Rattle.ix_commit.specs.declared.file_copy.FileCopy.{FileCopy}
use Rattle.ix_commit.specs.declared.file_copy.CopyTarget.{CopyTarget}
use Rattle.ix_commit.specs.declared.file_copy.CopyTarget.TheVariants as places

abbrev pub area_of : CopyTarget → Area
area_of places.Cold = areas.Cold
area_of places.Frozen = areas.Frozen
area_of places.Thawed = areas.Thawed

-- the file that a copy goes to
abbrev pub target : FileCopy → File
target copied = record { area = area_of copied.place; number = copied.number }

-- the bytes once the copy is made
abbrev pub after_copy : FileCopy → Filling → Filling
after_copy copied now = put_in (target copied) (take copied.len (now copied.from)) now

abbrev pub after_copies : List FileCopy → Filling → Filling
after_copies [] now = now
after_copies (copied ∷ copies) now = after_copies copies (after_copy copied now)

-- The target had no bytes, and there is enough to copy.
pub record IsCopy (old now : Filling) (copied : FileCopy) : Type 0 where
  pub other : copied.from ≢ target copied
  pub free : old (target copied) ≡ []
  pub enough : copied.len ≤ length (now copied.from)

-- each of them, behind those before it
abbrev pub AreCopies : Filling → Filling → List FileCopy → Type 0
AreCopies old now [] = Unit {0}
AreCopies old now (copied ∷ copies) = IsCopy old now copied × AreCopies old (after_copy copied now) copies
