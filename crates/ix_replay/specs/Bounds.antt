-- The bounds of what a store can keep, said of the items that stand in it.
use Rattle.std.specs.Prelude.{◌≡◌, ◌≢◌, ◌≤◌, ◌<◌, ◌^◌, ℕ, ℤ, List, Some, unsigned_abs, All, IfSome}
use Rattle.std.specs.List.{sum_by}
use Rattle.ix_base.specs.Clocks.{clamped}
use Rattle.ix_base.specs.declared.files.Area.TheVariants.{Meta}
use Rattle.ix_base.specs.declared.files.File.{File}
use Rattle.ix_items.specs.declared.items.Bucket.{Bucket}
use Rattle.ix_items.specs.declared.items.Entry.{Entry}
use Rattle.ix_items.specs.declared.items.Item.{Item}
use Rattle.ix_items.specs.declared.items.Item.TheVariants as items
use Rattle.ix_manifest.specs.Book.{empty, replay, removals_in}
use Rattle.ix_replay.specs.Amounts.{file_in, uses, next_in, bytes_in, events_in, channels_in, size_in}

-- ---- one item

-- a moment from the beginning of 1970 to that of 2100
abbrev pub IsMoment : ℤ → Type 0
IsMoment moment = clamped moment ≡ moment

-- the time of an event
abbrev pub IsTime : ℤ → Type 0
IsTime time = unsigned_abs time ≤ 2 ^ 62

-- a count, an id, an offset, a run or the number of a file
abbrev pub IsNumber : ℕ → Type 0
IsNumber n = n < 2 ^ 63

abbrev pub IsFileNumber : File → Type 0
IsFileNumber file = IsNumber file.number

pub record IsBucket (b : Bucket) : Type 0 where
  pub id : IsNumber b.id
  pub area : b.file.area ≢ Meta
  pub number : IsNumber b.file.number
  pub newest : IsTime b.newest
  pub oldest : IsTime b.oldest
  pub used : IsNumber b.used
  pub touched : IsMoment b.touched

pub record IsEntry (e : Entry) : Type 0 where
  pub id : IsNumber e.id
  pub moment : IsMoment e.moment
  pub newest : IsTime e.newest
  pub oldest : IsTime e.oldest
  pub archive : IfSome e.archive IsNumber

-- Each number and time of the item is in its range; the bytes and events of buckets are bounded by
-- their sums.
abbrev pub IsWithin : Item → Type 0
IsWithin (items.Settings kept) = Unit {0}
IsWithin (items.Run run) = IsNumber run
IsWithin (items.Moments last tick) = IsMoment last × IsMoment tick
IsWithin (items.Channel name meta carry) = Unit {0}
IsWithin (items.Ended name) = Unit {0}
IsWithin (items.Bucket index bucket) = IsBucket bucket
IsWithin (items.Gone index id) = IsNumber id
IsWithin (items.Ledger entry) = IsEntry entry
IsWithin (items.Counts settled nulled dropped placed) = IsNumber settled × IsNumber nulled × IsNumber dropped × IsNumber placed
IsWithin (items.Spot spot) = IsNumber spot.offset
IsWithin (items.NextFile number) = IsNumber number
IsWithin (items.Removals files) = All IsFileNumber files
IsWithin (items.NextId index id) = IsNumber id

-- ---- all of them

-- numbers of files, by how often each is used: they differ, and lie from 1 on below the next one
pub record AreApart (used : ℕ → ℕ) (next : ℕ) : Type 0 where
  pub one_each : (n : ℕ) → used n ≤ 1
  pub from_one : used 0 ≤ 0
  pub below : (n : ℕ) → next ≤ n → used n ≤ 0

-- the item's file is none of these
abbrev pub IsSpared : List File → Item → Type 0
IsSpared removed item = All (λ file. file_in item ≢ Some file) removed

-- The bounds of a state.
pub record KeepsBounds (items : List Item) : Type 0 where
  pub within : All IsWithin items
  pub apart : AreApart (λ n. sum_by (uses n) items) (next_in (replay items empty))
  pub spared : All (IsSpared (removals_in (replay items empty))) items
  pub bytes : sum_by bytes_in items < 2 ^ 63
  pub events : sum_by events_in items < 2 ^ 63
  pub channels : sum_by channels_in items ≤ 256
  pub size : sum_by size_in items < 2 ^ 29
