-- What a command may bring: texts within their limits, and settings that are what is kept gives.
use Rattle.std.specs.Prelude.{◌≢◌, ◌≤◌, ℕ, List, [], length, IfSome}
use Rattle.std.specs.List.{AllByRecursion, sum_by}
use Rattle.ix_base.specs.declared.events.ChannelMeta.{ChannelMeta}
use Rattle.ix_base.specs.declared.events.Spot.{Spot}
use Rattle.ix_model.specs.declared.commands.Command.{Command}
use Rattle.ix_model.specs.declared.commands.Command.TheVariants.{Begin, Block, End, Tick, Roll, Thaw, Configure, Direct}
use Rattle.ix_model.specs.declared.commands.Direct.{Direct as DirectEvent}
use Rattle.ix_model.specs.declared.commands.TimedCommand.{TimedCommand}
use Rattle.ix_state.specs.Configs.{IsConfig}

-- what a channel states has at most 1,024 bytes; a source that is a path has at most 4,096
pub record IsStated (meta : ChannelMeta) : Type 0 where
  pub host : length meta.host ≤ 1024
  pub source : length meta.source ≤ 4096
  pub sourcetype : IfSome meta.sourcetype (λ (name : List ℕ). length name ≤ 1024)
  pub index : IfSome meta.index (λ (name : List ℕ). length name ≤ 1024)

pub record IsSpot (spot : Spot) : Type 0 where
  pub path : length spot.path ≤ 4096
  pub head : length spot.head ≤ 256

abbrev pub IsName : List ℕ → Type 0
IsName channel = length channel ≤ 4097

abbrev pub IsBlock : List ℕ → Type 0
IsBlock bytes = length bytes ≤ 1048576

abbrev pub IsDirect : DirectEvent → Type 0
IsDirect event = (event.raw ≢ []) × IsStated event.meta

abbrev pub raw_length : DirectEvent → ℕ
raw_length event = length event.raw

abbrev pub AreTaken : List DirectEvent → Type 0
AreTaken events = AllByRecursion IsDirect events × (sum_by raw_length events ≤ 1048576)

abbrev pub IsTakenCommand : Command → Type 0
IsTakenCommand (Begin channel meta) = IsName channel × IsStated meta
IsTakenCommand (Block channel bytes spot) = IsName channel × IsBlock bytes × IfSome spot IsSpot
IsTakenCommand (End channel) = IsName channel
IsTakenCommand Tick = Unit {0}
IsTakenCommand (Roll index) = Unit {0}
IsTakenCommand (Thaw index id) = Unit {0}
IsTakenCommand (Configure config) = IsConfig config
IsTakenCommand (Direct events) = AreTaken events

abbrev pub IsTaken : TimedCommand → Type 0
IsTaken order = IsTakenCommand order.command

-- a history of such commands
abbrev pub AreGiven : List TimedCommand → Type 0
AreGiven history = AllByRecursion IsTaken history
