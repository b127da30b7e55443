-- The events that the files of buckets hold.
use Rattle.std.specs.Prelude.{◌<◌, ℕ, List}
use Rattle.std.specs.List.{AllZip, flat_map}
use Rattle.ix_base.specs.declared.events.Event.{Event}
use Rattle.ix_bucket.specs.Ahead.{HasNoRecord}
use Rattle.ix_bucket.specs.Count.{HasRecords}
use Rattle.ix_disk.specs.Image.{Image, bytes_in}
use Rattle.ix_items.specs.declared.items.Bucket.{Bucket}

-- The bytes of the bucket that count are the records of these events. What its file holds behind
-- them means nothing.
abbrev pub HasEvents : Image → Bucket → List Event → Type 0
HasEvents image bucket events = HasRecords events bucket.bytes (bytes_in image bucket.file)

-- the buckets hold these events, a list each
abbrev pub HaveEvents : Image → List Bucket → List (List Event) → Type 0
HaveEvents image buckets all = AllZip (HasEvents image) buckets all

-- some events are what each of the buckets holds
pub record AreWhole (image : Image) (buckets : List Bucket) : Type 0 where
  pub all : List (List Event)
  pub have : HaveEvents image buckets all

-- the events of the lists, one list behind the other
abbrev pub joined : List (List Event) → List Event
joined all = flat_map (λ (events : List Event). events) all

-- Behind the records of these events no record ends within the bytes of the bucket that count,
-- though there are more of them.
pub record IsDamaged (image : Image) (bucket : Bucket) (at : ℕ) (events : List Event) : Type 0 where
  pub read : HasRecords events at (bytes_in image bucket.file)
  pub within : at < bucket.bytes
  pub none : HasNoRecord at bucket.bytes (bytes_in image bucket.file)
