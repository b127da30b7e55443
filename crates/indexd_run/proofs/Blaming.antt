-- What a run blames, by what came of its mount.
use Rattle.std.proofs.Common.{◌≡◌, ◌⊎◌, ℕ, List, refl, subst, inl, inr}
use Rattle.std.specs.Prelude.{Some}
use Rattle.ix_base.specs.declared.files.File.{File}
use Rattle.ix_disk.specs.declared.disk.Disk.{Ghosts}
use Rattle.ix_items.specs.declared.items.Item.{Item}
use Rattle.ix_items.specs.declared.items.Kept.{Kept}
use Rattle.ix_manifest.specs.Book.{NamedItems}
use Rattle.ix_store.specs.declared.fault.MountFault.{MountFault}
use Rattle.ix_store.specs.declared.fault.MountFault.TheVariants as mounts
use Rattle.indexd_run.specs.Blamed.{HasMounted, IsBadStart, ReadsBad, Blames}
use Rattle.indexd_run.specs.Shortened.{HasHadItsRuns, IsOfCheckpoint}
use Rattle.indexd_run.specs.Stops.{of_mount}
use Rattle.indexd_run.specs.declared.stop.Stop.{Stop}
use Rattle.indexd_run.specs.declared.stop.Stop.TheVariants as stops

-- the end of a run blames what its stop does
pub damaged_stop : (stop other : Stop) (file : File) (at : ℕ) → (other ≡ stop) ⊎ IsOfCheckpoint other → other ≡ stops.Damaged file at →
    stop ≡ stops.Damaged file at
damaged_stop stop other file at (inl is) damaged = cc
damaged_stop stop other file at (inr (inl is)) damaged = absurd (cc)
damaged_stop stop other file at (inr (inr is)) damaged = absurd (cc)

pub missed_sound : (file : File) (at : ℕ) → stops.NotFound ≡ stops.Damaged file at → ⊥
missed_sound file at is = cc

-- nothing of the disk was changed since
pub place_still : {D : Type 0} (d : Ghosts D) (disk disk' : D) (file : File) (at : ℕ) → disk' ≡ disk → ReadsBad d disk file at →
    ReadsBad d disk' file at
place_still d disk disk' file at same place = λ image seen. place image (subst (λ x. d.seen x ≡ Some image) same seen)

module _ {D : Type 0} (d : Ghosts D) (fits : NamedItems → Type 0) (gives_none : List Kept → Item → Type 0) (before disk : D) where
  -- nothing was mounted
  pub not_mounted : (fault : MountFault) →
      ((file : File) (at : ℕ) → fault ≡ mounts.Damaged file at → IsBadStart d fits gives_none before file at) →
      (fault ≡ mounts.Full → HasHadItsRuns d fits before) → Blames (of_mount fault) d fits gives_none before disk
  not_mounted mounts.Disk damaged full = tt
  not_mounted (mounts.Damaged file at) damaged full = inl (damaged file at refl)
  not_mounted mounts.Full damaged full = inl (full refl)
  not_mounted mounts.NoMemory damaged full = tt

  -- a store was mounted
  pub once_mounted : (stop : Stop) → HasMounted d fits before → ((file : File) (at : ℕ) → stop ≡ stops.Damaged file at →
      ReadsBad d disk file at) → Blames stop d fits gives_none before disk
  once_mounted stops.Memory was place = tt
  once_mounted stops.Disk was place = tt
  once_mounted (stops.Damaged file at) was place = inr (was, place file at refl)
  once_mounted stops.Inconsistent was place = was
  once_mounted stops.NotFound was place = tt
  once_mounted stops.TooManyChannels was place = tt
  once_mounted stops.Full was place = inr was
  once_mounted stops.Output was place = tt
  once_mounted stops.Input was place = tt
  once_mounted stops.Endless was place = tt
