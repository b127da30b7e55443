-- Settings and spots behind a command.
use Rattle.std.specs.Prelude.{List, Option, Some, None}
use Rattle.ix_base.specs.declared.events.Spot.{Spot}
use Rattle.ix_model.specs.Step.{with_spot}
use Rattle.ix_model.specs.declared.commands.Command.{Command}
use Rattle.ix_model.specs.declared.commands.Command.TheVariants.{Begin, Block, End, Tick, Roll, Thaw, Configure, Direct}
use Rattle.ix_model.specs.declared.commands.Config.{Config}

-- other settings, where there are others
abbrev pub config_after : Config → Option Config → Config
config_after old None = old
config_after old (Some config) = config

abbrev pub config_for : Config → Command → Config
config_for old (Begin channel meta) = old
config_for old (Block channel bytes spot) = old
config_for old (End channel) = old
config_for old Tick = old
config_for old (Roll index) = old
config_for old (Thaw index id) = old
config_for old (Configure config) = config
config_for old (Direct events) = old

abbrev pub spots_for : List Spot → Command → List Spot
spots_for spots (Begin channel meta) = spots
spots_for spots (Block channel bytes spot) = with_spot spots spot
spots_for spots (End channel) = spots
spots_for spots Tick = spots
spots_for spots (Roll index) = spots
spots_for spots (Thaw index id) = spots
spots_for spots (Configure config) = spots
spots_for spots (Direct events) = spots
