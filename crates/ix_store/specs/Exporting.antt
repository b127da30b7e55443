-- What an export of an index writes.
use Rattle.std.specs.Prelude.{◌≡◌, Bool, if◌then◌else◌, ℕ, List, [], Contains, is_some}
use Rattle.std.specs.List.{AllByRecursion, flat_map}
use Rattle.ix_base.specs.declared.events.Event.{Event}
use Rattle.ix_base.specs.declared.files.File.{File}
use Rattle.ix_bucket.specs.Record.{IsInRange}
use Rattle.ix_disk.specs.Image.{Image}
use Rattle.ix_export.specs.Stored.{IsDamaged}
use Rattle.ix_items.specs.declared.items.Bucket.{Bucket}
use Rattle.ix_life.specs.declared.views.View.{View}
use Rattle.ix_model.specs.Buckets.{Slot, Index, listed, buckets}
use Rattle.ix_model.specs.Shown.{all_indexes}
use Rattle.ix_model.specs.State.{State, index_name, slots_in}
use Rattle.ix_catalog.specs.Lists.{find}
use Rattle.ix_catalog.specs.Shelves.{buckets_in}

-- whether an index is configured or ever had a bucket
abbrev pub is_seen : State → List ℕ → Bool
is_seen m index = is_some (find index_name index (all_indexes m))

-- its hot, quarantine, warm, cold and thawed buckets, by their numbers
abbrev pub listed_in : State → List ℕ → List Bucket
listed_in m index = buckets (slots_in m.catalog.indexes index)

-- the events of a bucket that is listed
abbrev pub listed_events : Slot → List Event
listed_events s = if is_some (listed s.standing) then s.events else []

-- the events of an index, bucket by bucket, and of a bucket in the order in which they came
abbrev pub exported : State → List ℕ → List Event
exported m index = flat_map listed_events (slots_in m.catalog.indexes index)

-- Of one of the buckets, whose file is this, the records of some events stand up to the place, and
-- behind them no record ends within its bytes that count.
pub record HasBadRecord (shown : List Bucket) (image : Image) (file : File) (at : ℕ) : Type 0 where
  pub bucket : Bucket
  pub is_shown : Contains shown bucket
  pub file_is : file ≡ bucket.file
  pub events : List Event
  pub damaged : IsDamaged image bucket at events

-- of the buckets of some index, as they are shown
abbrev pub HasBadBucket : View → Image → File → ℕ → Type 0
HasBadBucket shown image file at = (index : List ℕ) × HasBadRecord (buckets_in index shown.indexes) image file at

-- each event of each bucket has a record
abbrev pub HaveRecords : State → Type 0
HaveRecords m = AllByRecursion (λ (i : Index). AllByRecursion (λ (s : Slot). AllByRecursion IsInRange s.events) i.slots) m.catalog.indexes
