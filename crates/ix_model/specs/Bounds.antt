-- The bounds of what a store can keep.
use Rattle.std.specs.Prelude.{◌≡◌, ◌≤◌, ◌<◌, ◌+◌, ◌^◌, ℕ, ℤ, Bool, true, List, [], ◌∷◌, ◌++◌, map, length, unsigned_abs, Some, None}
use Rattle.std.specs.List.{AllByRecursion, flat_map, sum_by}
use Rattle.ix_base.specs.declared.events.Event.{Event}
use Rattle.ix_base.specs.declared.events.Spot.{Spot}
use Rattle.ix_items.specs.Spelling.{body_bytes}
use Rattle.ix_items.specs.declared.items.Bucket.{Bucket}
use Rattle.ix_items.specs.declared.items.Entry.{Entry}
use Rattle.ix_items.specs.declared.items.Item.{Item}
use Rattle.ix_items.specs.declared.items.Item.TheVariants as items
use Rattle.ix_model.specs.Buckets.{Slot, Index, buckets, ledger}
use Rattle.ix_model.specs.Given.{Chooser}
use Rattle.ix_model.specs.Judged.{refusal, adds, draws, most_channels}
use Rattle.ix_model.specs.State.{State, ChannelHistory}
use Rattle.ix_model.specs.Step.{after_from}
use Rattle.ix_model.specs.declared.answers.Refusal.{Refusal}
use Rattle.ix_model.specs.declared.answers.Refusal.TheVariants as refusals
use Rattle.ix_model.specs.declared.commands.TimedCommand.{TimedCommand}

-- ---- the items that a whole state is written as, the open channels without what is carried of
-- their streams

abbrev pub bucket_items : Index → List Item
bucket_items i = map (items.Bucket i.name) (buckets i.slots)

abbrev pub entry_items : Index → List Item
entry_items i = map items.Ledger (ledger i.slots)

-- each has had a bucket, so its next number is above 0
abbrev pub next_item : Index → Item
next_item i = items.NextId i.name (length i.slots)

abbrev pub channel_item : ChannelHistory → Item
channel_item life = items.Channel life.name life.meta []

abbrev pub sized_items : State → List Item
sized_items m =
    items.Settings m.force ∷ flat_map bucket_items m.catalog.indexes ++ flat_map entry_items m.catalog.indexes
    ++ map items.Spot m.spots ++ map next_item m.catalog.indexes ++ map channel_item m.channels

-- ---- bounds

abbrev pub IsTime : ℤ → Type 0
IsTime time = unsigned_abs time ≤ 2 ^ 62

abbrev pub HasTime : Event → Type 0
HasTime event = IsTime event.time

abbrev pub AreTimes : Index → Type 0
AreTimes i = AllByRecursion (λ (s : Slot). AllByRecursion HasTime s.events) i.slots

abbrev pub bytes_in : Index → ℕ
bytes_in i = sum_by (λ (b : Bucket). b.bytes) (buckets i.slots) + sum_by (λ (e : Entry). e.bytes) (ledger i.slots)

abbrev pub events_in : Index → ℕ
events_in i = sum_by (λ (b : Bucket). b.count) (buckets i.slots) + sum_by (λ (e : Entry). e.count) (ledger i.slots)

-- Moments keep their range by themselves. Files have numbers of their own, below the next, as a law
-- says.
pub record KeepsBounds (m : State) : Type 0 where
  pub times : AllByRecursion AreTimes m.catalog.indexes
  pub settled : m.catalog.counts.settled < 2 ^ 63
  pub next_file : m.catalog.next_file < 2 ^ 63
  pub next_ids : AllByRecursion (λ (i : Index). length i.slots < 2 ^ 63) m.catalog.indexes
  pub offsets : AllByRecursion (λ (s : Spot). s.offset < 2 ^ 63) m.spots
  pub bytes : sum_by bytes_in m.catalog.indexes < 2 ^ 63
  pub events : sum_by events_in m.catalog.indexes < 2 ^ 63
  pub channels : length m.channels ≤ most_channels
  pub items : length (body_bytes (sized_items m)) < 2 ^ 29

-- ---- refusals, whole

-- the number that a run draws next
abbrev pub HasNumber : ℕ → TimedCommand → Type 0
HasNumber drawn order = draws order.command ≡ true → drawn < 2 ^ 63

-- what the store would come to
abbrev pub come_to : Chooser → State → TimedCommand → State
come_to choose m order = after_from choose m (adds m order)

-- a command may be accepted: none of the causes holds, and the state that it leaves with its Tick
-- keeps the bounds
pub record IsAllowed (choose : Chooser) (closed : Bool) (drawn : ℕ) (m : State) (order : TimedCommand) : Type 0 where
  pub no_cause : refusal closed m order.command ≡ None
  pub bounds : KeepsBounds (come_to choose m order)
  pub number : HasNumber drawn order

-- it is refused as `Full`
pub record IsFull (choose : Chooser) (closed : Bool) (drawn : ℕ) (m : State) (order : TimedCommand) : Type 0 where
  pub no_cause : refusal closed m order.command ≡ None
  pub over : (KeepsBounds (come_to choose m order) × HasNumber drawn order) → ⊥

-- why it is refused: the first cause; want of memory may come at any time
abbrev pub IsRefused : Chooser → Bool → ℕ → State → TimedCommand → Refusal → Type 0
IsRefused choose closed drawn m order refusals.Full = IsFull choose closed drawn m order
IsRefused choose closed drawn m order refusals.NoMemory = Unit {0}
IsRefused choose closed drawn m order refusals.Closed = refusal closed m order.command ≡ Some refusals.Closed
IsRefused choose closed drawn m order refusals.NoChannel = refusal closed m order.command ≡ Some refusals.NoChannel
IsRefused choose closed drawn m order refusals.ChannelOpen = refusal closed m order.command ≡ Some refusals.ChannelOpen
IsRefused choose closed drawn m order refusals.UnknownIndex = refusal closed m order.command ≡ Some refusals.UnknownIndex
IsRefused choose closed drawn m order refusals.NoBucket = refusal closed m order.command ≡ Some refusals.NoBucket
IsRefused choose closed drawn m order refusals.NotArchived = refusal closed m order.command ≡ Some refusals.NotArchived
IsRefused choose closed drawn m order refusals.AlreadyThawed = refusal closed m order.command ≡ Some refusals.AlreadyThawed
IsRefused choose closed drawn m order refusals.TooManyChannels = refusal closed m order.command ≡ Some refusals.TooManyChannels
