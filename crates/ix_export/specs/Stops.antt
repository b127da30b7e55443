-- Where an export stops that meets bytes which are no record.
use Rattle.std.specs.Prelude.{◌≡◌, ◌<◌, ℕ, List, ◌∷◌, ◌++◌, Option, Contains}
use Rattle.ix_base.specs.Told.{HasWritten}
use Rattle.ix_base.specs.declared.events.Event.{Event}
use Rattle.ix_base.specs.declared.events.Range.{Range}
use Rattle.ix_base.specs.declared.files.File.{File}
use Rattle.ix_disk.specs.Image.{Image}
use Rattle.ix_export.specs.Lines.{text}
use Rattle.ix_export.specs.Stored.{HaveEvents, IsDamaged, joined}
use Rattle.ix_items.specs.declared.items.Bucket.{Bucket}

-- The bucket is damaged at the place, and the lines of the events before it were written.
pub record StopsIn (range : Range) (image : Image) (bucket : Bucket) (at : ℕ) (given given' : Option (List ℕ)) : Type 0 where
  pub events : List Event
  pub damaged : IsDamaged image bucket at events
  pub written : HasWritten (text range events) given given'

-- One of the buckets has this file and is damaged at the place, those before it are whole, and the
-- lines of the events of these and of those before the place were written.
pub record StopsAt (range : Range) (image : Image) (buckets : List Bucket) (file : File) (at : ℕ) (given given' : Option (List ℕ)) : Type 0
  where
    pub earlier : List Bucket
    pub bucket : Bucket
    pub later : List Bucket
    pub buckets_are : buckets ≡ earlier ++ bucket ∷ later
    pub file_is : file ≡ bucket.file
    pub all : List (List Event)
    pub have : HaveEvents image earlier all
    pub events : List Event
    pub damaged : IsDamaged image bucket at events
    pub written : HasWritten (text range (joined all ++ events)) given given'

-- one of the buckets has this file, and more bytes that count than stand before the place
pub record IsOfOne (buckets : List Bucket) (file : File) (at : ℕ) : Type 0 where
  pub bucket : Bucket
  pub is_one : Contains buckets bucket
  pub file_is : file ≡ bucket.file
  pub within : at < bucket.bytes
