-- Where the damage is that a commit meets.
use Rattle.std.specs.Prelude.{◌≡◌, ℕ, length, Some}
use Rattle.ix_base.specs.declared.files.File.{File}
use Rattle.ix_disk.specs.Image.{Image, bytes_in}
use Rattle.ix_disk.specs.declared.disk.Disk.{Ghosts}

-- as the disk reads, the file ends at the place
abbrev pub ReadsEnd : {D : Type 0} → Ghosts D → D → File → ℕ → Type 0
ReadsEnd d disk file at = (image : Image) → d.seen disk ≡ Some image → at ≡ length (bytes_in image file)
