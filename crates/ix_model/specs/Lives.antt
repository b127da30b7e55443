-- The life of a channel: what its commands add, one behind the other, and its stream.
use Rattle.std.specs.Prelude.{◌≡◌, ℕ, ℤ, Bool, true, false, if◌then◌else◌, List, [], ◌∷◌, ◌++◌, Some, bytes_eq}
use Rattle.ix_base.specs.Stream.{Dated, dated}
use Rattle.ix_base.specs.declared.events.Routed.{Routed}
use Rattle.ix_parse.specs.Settled.{settled}
use Rattle.ix_model.specs.Given.{Chooser}
use Rattle.ix_model.specs.State.{State, ChannelHistory, life_in}
use Rattle.ix_model.specs.Step.{block_adds, end_adds, effective, step, after_from}
use Rattle.ix_model.specs.declared.commands.Command.{Command}
use Rattle.ix_model.specs.declared.commands.Command.TheVariants.{Begin, Block, End, Tick, Roll, Thaw, Configure, Direct}
use Rattle.ix_model.specs.declared.commands.TimedCommand.{TimedCommand}

-- what a command adds for the channel of this name
abbrev pub said : State → Command → ℤ → List ℕ → List Routed
said m (Begin channel meta) moment name = []
said m (Block channel bytes spot) moment name = if bytes_eq channel name then block_adds bytes moment (life_in m channel) else []
said m (End channel) moment name = if bytes_eq channel name then end_adds (life_in m channel) else []
said m Tick moment name = []
said m (Roll index) moment name = []
said m (Thaw index id) moment name = []
said m (Configure config) moment name = end_adds (life_in m name)
said m (Direct events) moment name = []

-- what commands add for it, one behind the other
abbrev pub said_by : Chooser → State → List TimedCommand → List ℕ → List Routed
said_by choose m [] name = []
said_by choose m (o ∷ history) name =
    said m o.command (effective m.last o.moment) name ++ said_by choose (step choose m o) history name

-- the bytes that a command brings for it
abbrev pub brought : Command → ℤ → List ℕ → List Dated
brought (Begin channel meta) moment name = []
brought (Block channel bytes spot) moment name = if bytes_eq channel name then dated bytes moment else []
brought (End channel) moment name = []
brought Tick moment name = []
brought (Roll index) moment name = []
brought (Thaw index id) moment name = []
brought (Configure config) moment name = []
brought (Direct events) moment name = []

-- those that commands bring, each byte with the moment of its command
abbrev pub streamed : ℤ → List TimedCommand → List ℕ → List Dated
streamed last [] name = []
streamed last (o ∷ history) name =
    brought o.command (effective last o.moment) name ++ streamed (effective last o.moment) history name

-- whether a command ends it
abbrev pub ends : Command → List ℕ → Bool
ends (Begin channel meta) name = false
ends (Block channel bytes spot) name = false
ends (End channel) name = bytes_eq channel name
ends Tick name = false
ends (Roll index) name = false
ends (Thaw index id) name = false
ends (Configure config) name = true
ends (Direct events) name = false

abbrev pub Spares : List ℕ → TimedCommand → Type 0
Spares name o = ends o.command name ≡ false

-- Commands came behind the one that began the channel, and none of them ended it. What they added
-- for it is what is settled of its stream, and what they and a last one that ends it add is what is
-- settled of the closed stream.
pub record Joins (choose : Chooser) (m : State) (life : ChannelHistory) (history : List TimedCommand) : Type 0 where
  pub added : said_by choose m history life.name ≡ settled life.settings life.meta (streamed m.last history life.name) false
  pub added_closed : (last : TimedCommand) → ends last.command life.name ≡ true →
      said_by choose m (history ++ last ∷ []) life.name ≡ settled life.settings life.meta (streamed m.last history life.name) true
  pub is_open : life_in (after_from choose m history) life.name ≡ Some (record {
    name = life.name;
    meta = life.meta;
    settings = life.settings;
    stream = streamed m.last history life.name;
  })
