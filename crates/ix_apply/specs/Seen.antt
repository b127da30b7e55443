-- What would stand in memory, in parts.
use Rattle.std.specs.Prelude.{ℕ, List, map}
use Rattle.ix_base.specs.declared.events.ChannelMeta.{ChannelMeta}
use Rattle.ix_bounds.specs.Parts.{Parts}
use Rattle.ix_channels.specs.Changes as channels
use Rattle.ix_state.specs.Held.{ledger_of}
use Rattle.ix_state.specs.declared.state.StoreState.{StoreState}
use Rattle.ix_state.specs.declared.state.OpenChannel.{OpenChannel}
use Rattle.ix_apply.specs.Settings.{config_after}
use Rattle.ix_apply.specs.Spots as spots
use Rattle.ix_apply.specs.declared.next.Next.{Next}

abbrev pub named : OpenChannel → List ℕ × ChannelMeta
named o = (o.name, o.meta)

abbrev pub parts_of : StoreState → Next → Parts
parts_of held next = record {
  kept = (config_after held.config next.config).kept;
  channels = map named (channels.changed next.channels held.channels.items);
  spots = spots.placed next.spot held.spots.items;
  shelves = next.storage.shelves;
  ledger = ledger_of held.view.ledger next.storage.ledger;
}
