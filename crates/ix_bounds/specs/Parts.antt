-- The parts of a state that are in memory, but for streams and events.
use Rattle.std.specs.Prelude.{◌≡◌, ℕ, List, map}
use Rattle.std.specs.List.Sorted.{IsPermutation}
use Rattle.ix_base.specs.declared.events.ChannelMeta.{ChannelMeta}
use Rattle.ix_base.specs.declared.events.Spot.{Spot}
use Rattle.ix_items.specs.declared.items.Entry.{Entry}
use Rattle.ix_items.specs.declared.items.Kept.{Kept}
use Rattle.ix_model.specs.State.{State, ChannelHistory}
use Rattle.ix_catalog.specs.declared.index_table.IndexTable.{IndexTable}
use Rattle.ix_model.specs.Shelved.{shelved}

-- the settings that are kept, the names and metadata of the open channels, the spots, the shelves
-- and the ledger
pub record Parts : Type 0 where
  pub kept : List Kept
  pub channels : List (List ℕ × ChannelMeta)
  pub spots : List Spot
  pub shelves : IndexTable
  pub ledger : List Entry

abbrev pub channel_of : ChannelHistory → List ℕ × ChannelMeta
channel_of life = (life.name, life.meta)

-- They are those of a state. The ledger has its entries, in whatever order.
pub record IsPartsOf (m : State) (p : Parts) : Type 0 where
  pub kept_are : p.kept ≡ m.force
  pub channels_are : p.channels ≡ map channel_of m.channels
  pub spots_are : p.spots ≡ m.spots
  pub shelves_are : p.shelves ≡ shelved m.force m.catalog
  pub ledger_is : IsPermutation p.ledger m.catalog.ledger
