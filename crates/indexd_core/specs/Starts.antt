-- A disk on which nothing was written is a start of runs.
use Rattle.std.specs.Prelude.{◌≡◌, Some}
use Rattle.ix_disk.specs.Image.{Image, nothing}
use Rattle.ix_disk.specs.declared.disk.Disk.{Ghosts}
use Rattle.indexd_core.specs.Stored.{FromStart}

-- nothing was written on the disk, and it tells so
pub record IsBlank {D : Type 0} (d : Ghosts D) (disk : D) : Type 0 where
  pub left : (image : Image) → d.may_leave disk image → image ≡ nothing
  pub seen : d.seen disk ≡ Some nothing

-- What is said of every run from here is said of some run: nonsense cannot be said of all.
abbrev pub IsStart : {D : Type 0} → Ghosts D → D → Type 0
IsStart d disk = FromStart d disk (λ past. ⊥) → ⊥
