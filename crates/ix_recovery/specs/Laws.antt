-- What holds of the items of a history's log: the statements of the laws.
use Rattle.std.specs.Prelude.{List}
use Rattle.ix_items.specs.declared.items.Item.{Item}
use Rattle.ix_manifest.specs.Book.{empty, replay}
use Rattle.ix_model.specs.Given.{Chooser}
use Rattle.ix_model.specs.declared.commands.TimedCommand.{TimedCommand}
use Rattle.ix_replay.specs.Fits.{fits}
use Rattle.ix_replay.specs.Lists.{AreListed}
use Rattle.ix_state.specs.Held.{Holds}
use Rattle.ix_state.specs.declared.state.StoreState.{StoreState}
use Rattle.ix_store.specs.declared.faulty_item.FaultyItem.{FaultyItem}
use Rattle.ix_recovery.specs.Gathered.{nothing, all_taken}
use Rattle.ix_recovery.specs.Recalled.{IsRecalled, IsNoState, IsLog}

-- what is made of them, where they keep the bounds, is the state
abbrev pub LogsAreHeld : Type 0
LogsAreHeld =
    (choose : Chooser) (history : List TimedCommand) (said : List Item) (held : StoreState) → AreListed said → IsLog choose history said →
    fits (replay said empty) → IsRecalled (all_taken said nothing) held → Holds choose history held

-- and, whatever bounds they keep, they make one
abbrev pub NoLogIsRefused : Type 0
NoLogIsRefused =
    (choose : Chooser) (history : List TimedCommand) (said : List Item) (subject : FaultyItem) → AreListed said →
    IsLog choose history said →
    IsNoState subject (all_taken said nothing) → ⊥
