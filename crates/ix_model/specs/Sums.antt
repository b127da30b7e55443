-- What the fields of buckets and of entries say: they are the sums and the bounds of the events.
use Rattle.std.specs.Prelude.{◌≡◌, ◌≢◌, ℕ, suc, ℤ, List, [], ◌∷◌, length, fold, Option, Some, None}
use Rattle.std.specs.Int.{int_min, int_max}
use Rattle.ix_base.specs.declared.events.Event.{Event}
use Rattle.ix_base.specs.declared.files.Area.{Area}
use Rattle.ix_base.specs.declared.files.Area.TheVariants as areas
use Rattle.ix_bucket.specs.Record.{records}
use Rattle.ix_items.specs.declared.items.Bucket.{Bucket}
use Rattle.ix_items.specs.declared.items.Entry.{Entry}
use Rattle.ix_items.specs.declared.items.State.{State}
use Rattle.ix_items.specs.declared.items.State.TheVariants as states
use Rattle.ix_model.specs.Buckets.{Standing, live, frozen, Slot, Index}

-- the latest and the earliest of a time and those of events
abbrev pub latest : ℤ → List Event → ℤ
latest time events = fold (λ (t : ℤ) (e : Event). int_max t e.time) time events

abbrev pub earliest : ℤ → List Event → ℤ
earliest time events = fold (λ (t : ℤ) (e : Event). int_min t e.time) time events

-- there is an event; so many there are, with so many bytes of records, and these are the bounds of
-- their times
pub record AreSums (events : List Event) (count bytes : ℕ) (newest oldest : ℤ) : Type 0 where
  pub first : Event
  pub rest : List Event
  pub events_are : events ≡ first ∷ rest
  pub count_is : count ≡ length events
  pub bytes_are : bytes ≡ length (records events)
  pub newest_is : newest ≡ latest first.time rest
  pub oldest_is : oldest ≡ earliest first.time rest

pub record IsBucketOf (id : ℕ) (events : List Event) (b : Bucket) : Type 0 where
  pub id_is : b.id ≡ id
  pub sums : AreSums events b.count b.bytes b.newest b.oldest

pub record IsEntryOf (index : List ℕ) (id : ℕ) (events : List Event) (e : Entry) : Type 0 where
  pub index_is : e.index ≡ index
  pub id_is : e.id ≡ id
  pub sums : AreSums events e.count e.bytes e.newest e.oldest

-- Where the file of a bucket is. A warm one rolled where it was.
abbrev pub IsIn : State → Area → Type 0
IsIn states.Hot area = area ≡ areas.Home
IsIn states.Quarantine area = area ≡ areas.Home
IsIn states.Warm area = Unit {0}
IsIn states.Cold area = area ≡ areas.Cold
IsIn states.Thawed area = area ≡ areas.Thawed

-- a live bucket is not thawed; a frozen one may be thawed besides, with all its events
pub record IsLiveOf (id : ℕ) (events : List Event) (b : Bucket) : Type 0 where
  pub is_of : IsBucketOf id events b
  pub state_is : b.state ≢ states.Thawed
  pub file_is : IsIn b.state b.file.area

pub record IsThawedOf (id : ℕ) (events : List Event) (b : Bucket) : Type 0 where
  pub is_of : IsBucketOf id events b
  pub state_is : b.state ≡ states.Thawed
  pub file_is : b.file.area ≡ areas.Thawed

abbrev pub MayBeThawed : ℕ → List Event → Option Bucket → Type 0
MayBeThawed id events None = Unit {0}
MayBeThawed id events (Some b) = IsThawedOf id events b

abbrev pub IsStandingOf : List ℕ → ℕ → List Event → Standing → Type 0
IsStandingOf index id events (live b) = IsLiveOf id events b
IsStandingOf index id events (frozen e thawed) = IsEntryOf index id events e × MayBeThawed id events thawed

-- the numbers of the buckets are their places
abbrev pub AreSoundFrom : List ℕ → ℕ → List Slot → Type 0
AreSoundFrom index id [] = Unit {0}
AreSoundFrom index id (s ∷ slots) = IsStandingOf index id s.events s.standing × AreSoundFrom index (suc id) slots

abbrev pub IsSound : Index → Type 0
IsSound i = AreSoundFrom i.name 0 i.slots
