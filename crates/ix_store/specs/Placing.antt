-- Where a disk does not hold what its store needs.
use Rattle.std.specs.Prelude.{◌≡◌, ◌⊎◌, ℕ, length, Some}
use Rattle.ix_base.specs.declared.files.File.{File}
use Rattle.ix_disk.specs.Image.{Image, bytes_in}
use Rattle.ix_disk.specs.declared.disk.Disk.{Ghosts}
use Rattle.ix_life.specs.declared.views.View.{View}
use Rattle.ix_store.specs.Exporting.{HasBadBucket}

-- The file ends at the place, which a commit meets; or it is that of a bucket that is shown, of
-- which no record ends behind the place within the bytes that count, which an export meets.
abbrev pub IsBadPlace : View → Image → File → ℕ → Type 0
IsBadPlace shown image file at = (at ≡ length (bytes_in image file)) ⊎ HasBadBucket shown image file at

-- so it is as the disk reads
abbrev pub ReadsBad : {D : Type 0} → Ghosts D → View → D → File → ℕ → Type 0
ReadsBad d shown disk file at = (image : Image) → d.seen disk ≡ Some image → IsBadPlace shown image file at
