-- Channels and spots in sum, as a caller has them whose lists are those to come.
use Rattle.std.specs.Prelude.{◌≡◌, ◌^◌, ℕ, Bool, nat_lt, List, length}
use Rattle.std.specs.List.{list_all, sum_by}
use Rattle.ix_base.specs.declared.events.ChannelMeta.{ChannelMeta}
use Rattle.ix_base.specs.declared.events.Spot.{Spot}
use Rattle.ix_items.specs.declared.items.Entry.{Entry}
use Rattle.ix_items.specs.declared.items.Kept.{Kept}
use Rattle.ix_catalog.specs.Measures.{capped}
use Rattle.ix_catalog.specs.declared.index_table.IndexTable.{IndexTable}
use Rattle.ix_bounds.specs.Parts.{Parts}
use Rattle.ix_bounds.specs.Within.{channel_size, spot_size}
use Rattle.ix_bounds.specs.declared.totals.Channels.{Channels}
use Rattle.ix_bounds.specs.declared.totals.Spots.{Spots}

-- how many channels there are, and the bytes of their items, each up to the largest number of its
-- type
pub record AreChannels (channels : List (List ℕ × ChannelMeta)) (sum : Channels) : Type 0 where
  pub count : sum.count ≡ capped (length channels)
  pub size : sum.size ≡ capped (sum_by channel_size channels)

abbrev pub has_offset : Spot → Bool
has_offset spot = nat_lt spot.offset (2 ^ 63)

-- whether all offsets are below 2^63, and the bytes of the items of the spots
pub record AreSpots (spots : List Spot) (sum : Spots) : Type 0 where
  pub within : sum.within ≡ list_all has_offset spots
  pub size : sum.size ≡ capped (sum_by spot_size spots)

-- what is measured is what these parts come to
pub record AreMeasured (p : Parts) (kept : List Kept) (channels : Channels) (spots : Spots) (shelves : IndexTable)
    (ledger : List Entry) : Type 0 where
  pub kept_are : p.kept ≡ kept
  pub channels_are : AreChannels p.channels channels
  pub spots_are : AreSpots p.spots spots
  pub shelves_are : p.shelves ≡ shelves
  pub ledger_is : p.ledger ≡ ledger
