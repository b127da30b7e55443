-- What a command leaves in memory, and the state once it is taken.
use Rattle.std.specs.Prelude.{◌≡◌, List}
use Rattle.ix_channels.specs.Changes as channels
use Rattle.ix_model.specs.Given.{Chooser}
use Rattle.ix_model.specs.declared.commands.TimedCommand.{TimedCommand}
use Rattle.ix_state.specs.Held.{Holds, ledger_of, shelves_of}
use Rattle.ix_state.specs.declared.state.StoreState.{StoreState}
use Rattle.ix_apply.specs.Settings.{config_after}
use Rattle.ix_apply.specs.Spots as spots
use Rattle.ix_apply.specs.declared.next.Next.{Next}

-- it can be taken without memory
pub record HasRoom (held : StoreState) (next : Next) : Type 0 where
  pub channels : channels.HasRoom next.channels held.channels
  pub spots : spots.HasRoom next.spot held.spots

-- it was taken
pub record IsInstalled (held : StoreState) (next : Next) (later : StoreState) : Type 0 where
  pub config_is : later.config ≡ config_after held.config next.config
  pub channels_are : later.channels.items ≡ channels.changed next.channels held.channels.items
  pub spots_are : later.spots.items ≡ spots.placed next.spot held.spots.items
  pub shelves_are : shelves_of later ≡ next.storage.shelves
  pub ledger_is : later.view.ledger ≡ ledger_of held.view.ledger next.storage.ledger
  pub last_is : later.last ≡ next.storage.last
  pub tick_is : later.tick ≡ next.storage.tick

-- whoever takes it holds the history
abbrev pub IsReady : Chooser → List TimedCommand → StoreState → Next → Type 0
IsReady choose history held next = (later : StoreState) → IsInstalled held next later → Holds choose history later
