-- What a store counts of the commands that it accepted.
use Rattle.std.specs.Prelude.{◌-◌, ◌^◌, ◌||◌, ℕ, Bool, true, false, if◌then◌else◌, min, nat_le, List, length}
use Rattle.std.specs.List.{sum_by, list_any}
use Rattle.ix_model.specs.Judged.{draws}
use Rattle.ix_model.specs.declared.commands.Command.{Command}
use Rattle.ix_model.specs.declared.commands.Command.TheVariants.{Begin, Block, End, Tick, Roll, Thaw, Configure, Direct}
use Rattle.ix_model.specs.declared.commands.Direct.{Direct as DirectEvent}
use Rattle.ix_model.specs.declared.commands.TimedCommand.{TimedCommand}

-- ---- of one command

abbrev pub number_of : Command → ℕ
number_of command = if draws command then 1 else 0

abbrev pub text_length : DirectEvent → ℕ
text_length event = length event.raw

-- how many bytes it brings to be stored
abbrev pub weight_of : Command → ℕ
weight_of (Begin channel meta) = 0
weight_of (Block channel bytes spot) = length bytes
weight_of (End channel) = 0
weight_of Tick = 0
weight_of (Roll index) = 0
weight_of (Thaw index id) = 0
weight_of (Configure config) = 0
weight_of (Direct events) = sum_by text_length events

-- whether it is committed at once
abbrev pub is_turn : Command → Bool
is_turn (Begin channel meta) = false
is_turn (Block channel bytes spot) = false
is_turn (End channel) = false
is_turn Tick = true
is_turn (Roll index) = false
is_turn (Thaw index id) = false
is_turn (Configure config) = true
is_turn (Direct events) = false

-- ---- of several

-- how many numbers they draw
abbrev pub numbers : List TimedCommand → ℕ
numbers orders = sum_by (λ (order : TimedCommand). number_of order.command) orders

abbrev pub weights : List TimedCommand → ℕ
weights orders = sum_by (λ (order : TimedCommand). weight_of order.command) orders

abbrev pub has_turn : List TimedCommand → Bool
has_turn orders = list_any (λ (order : TimedCommand). is_turn order.command) orders

-- a count of 64 bits stands still at its end
abbrev pub capped : ℕ → ℕ
capped n = min n (2 ^ 64 - 1)

-- whether these are to be committed at once
abbrev pub is_due : List TimedCommand → Bool
is_due orders = nat_le 64 (numbers orders) || (nat_le 1048576 (weights orders) || has_turn orders)
