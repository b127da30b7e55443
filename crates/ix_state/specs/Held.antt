-- What a store has in memory of the state that a history leads to.
use Rattle.std.specs.Prelude.{◌≡◌, ℤ, List, Option, Some, None}
use Rattle.std.specs.List.{AllZip}
use Rattle.std.specs.List.Sorted.{IsPermutation, IsSortedBy}
use Rattle.ix_items.specs.declared.items.Entry.{Entry}
use Rattle.ix_state.specs.Configs.{IsConfig}
use Rattle.ix_model.specs.Bounds.{KeepsBounds}
use Rattle.ix_model.specs.Given.{Chooser}
use Rattle.ix_model.specs.Ranked.{ranks_before}
use Rattle.ix_model.specs.State.{State, ChannelHistory}
use Rattle.ix_model.specs.Step.{state_after}
use Rattle.ix_model.specs.declared.commands.TimedCommand.{TimedCommand}
use Rattle.ix_parse.specs.Carry.{HasMoments}
use Rattle.ix_parse.specs.Limits.{KeepsLimits}
use Rattle.ix_parse.specs.Standing.{StandsFor}
use Rattle.ix_props.specs.Same.{AreSame}
use Rattle.ix_props.specs.Settings.{AreUsable}
use Rattle.ix_props.specs.declared.settings.Settings.{Settings}
use Rattle.ix_model.specs.Shelved.{IsSet, shelved}
use Rattle.ix_catalog.specs.declared.index_table.IndexTable.{IndexTable}
use Rattle.ix_state.specs.declared.state.StoreState.{StoreState}
use Rattle.ix_state.specs.declared.state.OpenChannel.{OpenChannel}
use Rattle.ix_state.specs.declared.state.CatalogState.{CatalogState}

-- ---- channels, spots and settings

-- An open channel in memory: it has taken in the stream of its life, under settings that mean the
-- same.
pub record IsOpen (life : ChannelHistory) (held : OpenChannel) : Type 0 where
  pub name : held.name ≡ life.name
  pub meta : held.meta ≡ life.meta
  pub settings : Settings
  pub same : AreSame settings life.settings
  pub usable : AreUsable settings
  pub limits : KeepsLimits settings life.meta
  pub stands : StandsFor settings life.meta life.stream held.channel
  pub moments : HasMoments life.stream

-- The settings in force, the open channels and the spots of a state are in memory.
pub record SeesChannels (m : State) (held : StoreState) : Type 0 where
  pub kept : held.config.kept ≡ m.force
  pub set : IsSet m.force held.config.limits
  pub config : IsConfig held.config
  pub channels : AllZip IsOpen m.channels held.channels.items
  pub spots : held.spots.items ≡ m.spots

-- ---- indexes, counts, the ledger and moments

-- the entries of the ledger, which may be as they were
abbrev pub ledger_of : List Entry → Option (List Entry) → List Entry
ledger_of held None = held
ledger_of held (Some ledger) = ledger

-- They are those of a state. The ledger has its entries, each once, in the order in which they are
-- seen.
pub record SeesStorage (m : State) (shelves : IndexTable) (ledger : List Entry) (last tick : ℤ) : Type 0 where
  pub shelves_are : shelves ≡ shelved m.force m.catalog
  pub ledger_is : IsPermutation ledger m.catalog.ledger
  pub ledger_rises : IsSortedBy ranks_before ledger
  pub last_is : last ≡ m.last
  pub tick_is : tick ≡ m.tick

-- the indexes, the counts and the number of the next file
abbrev pub shelves_of : StoreState → IndexTable
shelves_of held = record {
  indexes = held.view.indexes;
  settled = held.view.settled;
  nulled = held.view.nulled;
  dropped = held.view.dropped;
  placed = held.placed;
  next_file = held.next_file;
}

-- what a storage has beside a state in memory, which has the ledger where the storage has none
abbrev pub SeesBeside : State → List Entry → CatalogState → Type 0
SeesBeside m ledger storage = SeesStorage m storage.shelves (ledger_of ledger storage.ledger) storage.last storage.tick

-- ---- all of it

-- In memory is the state that the history leads to, which keeps the bounds of what can be kept.
pub record Holds (choose : Chooser) (history : List TimedCommand) (held : StoreState) : Type 0 where
  pub channels : SeesChannels (state_after choose history) held
  pub storage : SeesStorage (state_after choose history) (shelves_of held) held.view.ledger held.last held.tick
  pub bounds : KeepsBounds (state_after choose history)
