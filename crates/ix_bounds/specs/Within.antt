-- The bounds of what a store can keep, by the parts of a state that are in memory.
use Rattle.std.specs.Prelude.{◌≤◌, ◌<◌, ◌+◌, ◌^◌, ℕ, List, [], length}
use Rattle.std.specs.List.{AllByRecursion, sum_by}
use Rattle.ix_base.specs.declared.events.ChannelMeta.{ChannelMeta}
use Rattle.ix_base.specs.declared.events.Spot.{Spot}
use Rattle.ix_items.specs.Spelling.{item_bytes}
use Rattle.ix_items.specs.declared.items.Bucket.{Bucket}
use Rattle.ix_items.specs.declared.items.Entry.{Entry}
use Rattle.ix_items.specs.declared.items.Item.{Item}
use Rattle.ix_items.specs.declared.items.Item.TheVariants as items
use Rattle.ix_items.specs.declared.items.Kept.{Kept}
use Rattle.ix_life.specs.declared.views.IndexView.{IndexView}
use Rattle.ix_model.specs.Bounds.{IsTime, KeepsBounds}
use Rattle.ix_model.specs.Given.{Chooser}
use Rattle.ix_model.specs.Judged.{most_channels}
use Rattle.ix_model.specs.Step.{state_after}
use Rattle.ix_model.specs.declared.commands.TimedCommand.{TimedCommand}
use Rattle.ix_catalog.specs.Measures.{all_bytes, all_events, shelf_size}
use Rattle.ix_bounds.specs.Parts.{Parts, IsPartsOf}

-- ---- times

abbrev pub HasTimes : Bucket → Type 0
HasTimes b = IsTime b.newest × IsTime b.oldest

abbrev pub EntryHasTimes : Entry → Type 0
EntryHasTimes e = IsTime e.newest × IsTime e.oldest

abbrev pub AllHaveTimes : IndexView → Type 0
AllHaveTimes v = AllByRecursion HasTimes v.buckets

-- ---- sizes: how many bytes the items have

abbrev pub item_size : Item → ℕ
item_size item = length (item_bytes item)

abbrev pub settings_size : List Kept → ℕ
settings_size kept = item_size (items.Settings kept)

-- an open channel, without what is carried of its stream
abbrev pub channel_size : List ℕ × ChannelMeta → ℕ
channel_size channel = item_size (items.Channel channel.0 channel.1 [])

abbrev pub spot_size : Spot → ℕ
spot_size spot = item_size (items.Spot spot)

abbrev pub size : Parts → ℕ
size p = settings_size p.kept + sum_by channel_size p.channels + sum_by spot_size p.spots + shelf_size p.ledger p.shelves

-- ---- bounds

abbrev pub HasOffset : Spot → Type 0
HasOffset spot = spot.offset < 2 ^ 63

pub record AreWithin (p : Parts) : Type 0 where
  pub times : AllByRecursion AllHaveTimes p.shelves.indexes
  pub frozen_times : AllByRecursion EntryHasTimes p.ledger
  pub settled : p.shelves.settled < 2 ^ 63
  pub next_file : p.shelves.next_file < 2 ^ 63
  pub offsets : AllByRecursion HasOffset p.spots
  pub bytes : all_bytes p.ledger p.shelves < 2 ^ 63
  pub events : all_events p.ledger p.shelves < 2 ^ 63
  pub channels : length p.channels ≤ most_channels
  pub items : size p < 2 ^ 29

-- After every history, a state keeps the bounds exactly where the parts of it that are in memory
-- are within theirs.
abbrev pub BoundsAreSeen : Type 0
BoundsAreSeen = (choose : Chooser) (history : List TimedCommand) (p : Parts) → IsPartsOf (state_after choose history) p →
    (AreWithin p → KeepsBounds (state_after choose history)) × (KeepsBounds (state_after choose history) → AreWithin p)
