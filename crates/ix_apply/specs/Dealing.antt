-- What the parts of a command's work say, for every command that they serve.
use Rattle.std.specs.Prelude.{◌≡◌, ℕ, List, [], ◌∷◌, Option, Some}
use Rattle.ix_base.specs.declared.events.Spot.{Spot}
use Rattle.ix_channels.specs.declared.channel_effect.ChannelEffect.{ChannelEffect}
use Rattle.ix_items.specs.declared.items.Item.TheVariants as items
use Rattle.ix_model.specs.declared.commands.Command.{Command}
use Rattle.ix_model.specs.declared.commands.Command.TheVariants.{Block, Configure}
use Rattle.ix_model.specs.declared.commands.Config.{Config}
use Rattle.ix_effects.specs.Moving.{IsDealing}
use Rattle.ix_apply.specs.Steps.{IsBeside, IsOver, Steps, WorksOut, step_with}
use Rattle.ix_apply.specs.declared.spots.SpotChange.TheVariants as changes
use Rattle.ix_apply.specs.declared.effect.Beside.{Beside}
use Rattle.ix_apply.specs.declared.effect.Effect.{Effect}
use Rattle.ix_apply.specs.declared.context.Parts.{Parts}
use Rattle.ix_apply.specs.declared.context.CommandContext.{CommandContext}

-- the step of every command that deals what was worked out, and has this beside it
pub record Deals (w : CommandContext) (worked : ChannelEffect) (b : Beside) (step : Effect) : Type 0 where
  pub steps : (command : Command) → IsDealing command → IsBeside command w.held.now b → WorksOut command w worked → Steps command w step

-- no command that deals it keeps the bounds
pub record CannotDeal (w : CommandContext) (worked : ChannelEffect) : Type 0 where
  pub over : (command : Command) → IsDealing command → WorksOut command w worked → IsOver command w

-- what a Block makes of the channels, whichever spot it brings
pub record Feeds (channel bytes : List ℕ) (w : CommandContext) (worked : ChannelEffect) : Type 0 where
  pub works : (spot : Option Spot) → WorksOut (Block channel bytes spot) w worked

pub record CannotFeed (channel bytes : List ℕ) (w : CommandContext) : Type 0 where
  pub over : (spot : Option Spot) → IsOver (Block channel bytes spot) w

-- what a Configure makes of them, whichever settings it brings
pub record Ends (w : CommandContext) (worked : ChannelEffect) : Type 0 where
  pub works : (config : Config) → WorksOut (Configure config) w worked

pub record CannotEnd (w : CommandContext) : Type 0 where
  pub over : (config : Config) → IsOver (Configure config) w

-- what a Configure makes of channels, indexes and files, with nothing beside it but these settings
pub record Configured (config : Config) (w : CommandContext) (parts : Parts) : Type 0 where
  pub steps : (b : Beside) → b.items ≡ items.Settings config.kept ∷ [] → b.config ≡ Some config → b.spot ≡ changes.Same →
      Steps (Configure config) w (step_with parts.moved parts.change parts.items b)
