-- Why a run stops at damage, or for want of room, whatever the disk held at its start.
use Rattle.std.specs.Prelude.{◌≡◌, ◌⊎◌, ℕ, List, length, Some}
use Rattle.ix_base.specs.declared.files.File.{File}
use Rattle.ix_disk.specs.Image.{Image, bytes_in}
use Rattle.ix_disk.specs.declared.disk.Disk.{Ghosts}
use Rattle.ix_items.specs.declared.items.Item.{Item}
use Rattle.ix_items.specs.declared.items.Kept.{Kept}
use Rattle.ix_life.specs.declared.views.View.{View}
use Rattle.ix_manifest.specs.Book.{NamedItems}
use Rattle.ix_store.specs.Exporting.{HasBadBucket}
use Rattle.ix_store.specs.Finding.{IsBadStore}
use Rattle.indexd_run.specs.Opened.{IsNewRun}
use Rattle.indexd_run.specs.Shortened.{HasHadItsRuns, HasRunsLeft}
use Rattle.indexd_run.specs.declared.stop.Stop.{Stop}
use Rattle.indexd_run.specs.declared.stop.Stop.TheVariants as stops

-- A store was mounted: as the disk read at the start, the bodies of its logs all count, a further
-- run was left, and the run has the number behind theirs.
pub record HasMounted {D : Type 0} (d : Ghosts D) (fits : NamedItems → Type 0) (before : D) : Type 0 where
  pub run : ℕ
  pub number : IsNewRun d fits run before
  pub runs_left : HasRunsLeft d fits before

-- As the disk read at the start, a log had a bad body at this place of the file, or the body there
-- says something of which no state comes: nothing was mounted.
abbrev pub IsBadStart : {D : Type 0} → Ghosts D → (NamedItems → Type 0) → (List Kept → Item → Type 0) → D → File → ℕ → Type 0
IsBadStart d fits gives_none before file at = (image : Image) → d.seen before ≡ Some image → IsBadStore fits gives_none file at image

-- As the disk reads, the file ends at the place, which a commit has met; or it is that of a bucket
-- that memory has shown, of which no record ends behind the place within the bytes that count, which
-- an export has met.
abbrev pub ReadsBad : {D : Type 0} → Ghosts D → D → File → ℕ → Type 0
ReadsBad d disk file at = (image : Image) → d.seen disk ≡ Some image →
    (at ≡ length (bytes_in image file)) ⊎ ((shown : View) × HasBadBucket shown image file at)

-- What is behind a stop: damage is that of the start, or of a store that was mounted, as the disk
-- reads behind the run; a store is full where it has had its last run, or where one was mounted
-- that refuses a command; and what is in memory contradicts itself only once a store was mounted.
abbrev pub Blames : Stop → {D : Type 0} → Ghosts D → (NamedItems → Type 0) → (List Kept → Item → Type 0) → D → D → Type 0
Blames stops.Memory d fits gives_none before disk = Unit {0}
Blames stops.Disk d fits gives_none before disk = Unit {0}
Blames (stops.Damaged file at) d fits gives_none before disk =
    IsBadStart d fits gives_none before file at ⊎ (HasMounted d fits before × ReadsBad d disk file at)
Blames stops.Inconsistent d fits gives_none before disk = HasMounted d fits before
Blames stops.NotFound d fits gives_none before disk = Unit {0}
Blames stops.TooManyChannels d fits gives_none before disk = Unit {0}
Blames stops.Full d fits gives_none before disk = HasHadItsRuns d fits before ⊎ HasMounted d fits before
Blames stops.Output d fits gives_none before disk = Unit {0}
Blames stops.Input d fits gives_none before disk = Unit {0}
Blames stops.Endless d fits gives_none before disk = Unit {0}
