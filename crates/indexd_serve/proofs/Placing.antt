-- Where the damage is that ends a run whose store is gone.
use Rattle.std.proofs.Common.{◌≡◌, ◌⊎◌, ℕ, length, inl, inr}
use Rattle.ix_base.specs.declared.files.File.{File}
use Rattle.ix_disk.specs.Image.{Image, bytes_in}
use Rattle.ix_disk.specs.declared.disk.Disk.{Ghosts}
use Rattle.ix_life.specs.declared.views.View.{View}
use Rattle.ix_store.specs.Exporting.{HasBadBucket}
use Rattle.ix_store.specs.Placing.{IsBadPlace}
use Rattle.ix_store.specs.Placing as places
use Rattle.indexd_run.specs.Blamed.{ReadsBad}

some_shown : (shown : View) (image : Image) (file : File) (at : ℕ) → IsBadPlace shown image file at →
    (at ≡ length (bytes_in image file)) ⊎ ((seen : View) × HasBadBucket seen image file at)
some_shown shown image file at (inl ends) = inl ends
some_shown shown image file at (inr bad) = inr (shown, bad)

-- the buckets are those of the store
pub store_gone : {D : Type 0} (d : Ghosts D) (shown : View) (disk : D) (file : File) (at : ℕ) →
    places.ReadsBad d shown disk file at → ReadsBad d disk file at
store_gone d shown disk file at bad image told = some_shown shown image file at (bad image told)
