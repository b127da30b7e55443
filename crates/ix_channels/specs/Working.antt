-- What a command makes of the open channels, by the state that it comes to and the state that it
-- leaves.
use Rattle.std.specs.Prelude.{◌≡◌, ℤ, List, None}
use Rattle.std.specs.List.{AllZip}
use Rattle.ix_parse.specs.Form.{IsMoment}
use Rattle.ix_state.specs.Configs.{IsChooser}
use Rattle.ix_state.specs.Taken.{IsTakenCommand}
use Rattle.ix_model.specs.Bounds.{KeepsBounds}
use Rattle.ix_model.specs.Given.{Chooser}
use Rattle.ix_model.specs.Judged.{judged}
use Rattle.ix_model.specs.Step.{state_after, outcomes, stepped}
use Rattle.ix_model.specs.declared.commands.Command.{Command}
use Rattle.ix_model.specs.declared.commands.TimedCommand.{TimedCommand}
use Rattle.ix_model.specs.Said.{channel_items}
use Rattle.ix_state.specs.Held.{IsOpen, SeesChannels}
use Rattle.ix_state.specs.declared.state.StoreState.{StoreState}
use Rattle.ix_channels.specs.Changes.{HasRoom, changed}
use Rattle.ix_channels.specs.declared.channel_effect.ChannelEffect.{ChannelEffect}

-- A command may be done at this moment in the state that the history leads to, of which this is in
-- memory.
pub record MayBeDone (choose : Chooser) (history : List TimedCommand) (command : Command) (moment : ℤ) (held : StoreState) : Type 0 where
  pub chooser : IsChooser choose
  pub taken : IsTakenCommand command
  pub sees : SeesChannels (state_after choose history) held
  pub no_cause : judged (state_after choose history) command ≡ None
  pub in_range : IsMoment moment

-- What it makes of the channels is what the machine does: the channels that are then open, the
-- outcomes that it adds, and the items that say it. There is room for the change.
pub record IsWorked (choose : Chooser) (history : List TimedCommand) (command : Command) (moment : ℤ) (held : StoreState)
    (worked : ChannelEffect) : Type 0 where
  pub channels : AllZip IsOpen (stepped choose (state_after choose history) command moment).channels
      (changed worked.change held.channels.items)
  pub room : HasRoom worked.change held.channels
  pub outcomes : worked.outcomes ≡ outcomes choose (state_after choose history) command moment
  pub items : worked.items ≡ channel_items (state_after choose history) command (stepped choose (state_after choose history) command moment)

-- the states before and behind it keep the bounds
pub record StaysWithin (choose : Chooser) (history : List TimedCommand) (command : Command) (moment : ℤ) : Type 0 where
  pub before : KeepsBounds (state_after choose history)
  pub behind : KeepsBounds (stepped choose (state_after choose history) command moment)
