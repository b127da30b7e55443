-- The names of the indexes that ever had a bucket.
use Rattle.std.specs.Prelude.{◌≡◌, false, List}
use Rattle.std.specs.List.{AllByRecursion}
use Rattle.ix_life.specs.Stanzas.{is_volume}
use Rattle.ix_model.specs.Buckets.{Index}
use Rattle.ix_model.specs.Given.{Chooser}
use Rattle.ix_model.specs.Step.{state_after}
use Rattle.ix_model.specs.declared.commands.Command.{Command}
use Rattle.ix_model.specs.declared.commands.Command.TheVariants.{Begin, Block, End, Tick, Roll, Thaw, Configure, Direct}
use Rattle.ix_model.specs.declared.commands.TimedCommand.{TimedCommand}
use Rattle.ix_model.specs.Shelved.{IsSet}

-- a command that brings settings brings the limits that were loaded from them, without a fault
abbrev pub CommandBringsLimits : Command → Type 0
CommandBringsLimits (Begin channel meta) = Unit {0}
CommandBringsLimits (Block channel bytes spot) = Unit {0}
CommandBringsLimits (End channel) = Unit {0}
CommandBringsLimits Tick = Unit {0}
CommandBringsLimits (Roll index) = Unit {0}
CommandBringsLimits (Thaw index id) = Unit {0}
CommandBringsLimits (Configure config) = IsSet config.kept config.limits
CommandBringsLimits (Direct events) = Unit {0}

abbrev pub BringsLimits : TimedCommand → Type 0
BringsLimits order = CommandBringsLimits order.command

-- its name is not that of a volume
abbrev pub HasName : Index → Type 0
HasName i = is_volume i.name ≡ false

-- No event goes to a volume, whatever settings were in force.
abbrev pub NamesAreNoVolumes : Type 0
NamesAreNoVolumes = (choose : Chooser) (history : List TimedCommand) → AllByRecursion BringsLimits history →
    AllByRecursion HasName (state_after choose history).catalog.indexes
