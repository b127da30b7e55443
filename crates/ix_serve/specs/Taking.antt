-- What requests ask for may be given to a store.
use Rattle.std.specs.Prelude.{◌≡◌, ◌≤◌, ℕ, ℤ, true, List, length, None}
use Rattle.ix_base.specs.declared.events.ChannelMeta.{ChannelMeta}
use Rattle.ix_http.specs.Limits.{IsBriefMeta}
use Rattle.ix_http.specs.Routes.{is_channel_name}
use Rattle.ix_model.specs.declared.commands.Command.TheVariants.{Begin, Block, End}
use Rattle.ix_model.specs.declared.commands.TimedCommand.{TimedCommand}

-- at any moment: names of 1 to 64 letters, digits, `_`, `-` or `.`, metadata of at most 1,024 bytes
-- each, and blocks of at most 1,048,576
pub record TakesAsks (takes : TimedCommand → Type 0) : Type 0 where
  pub begins : (channel : List ℕ) (meta : ChannelMeta) (moment : ℤ) → is_channel_name channel ≡ true → IsBriefMeta meta →
      takes (record { command = Begin channel meta; moment = moment })
  pub blocks : (channel bytes : List ℕ) (moment : ℤ) → is_channel_name channel ≡ true → length bytes ≤ 1048576 →
      takes (record { command = Block channel bytes None; moment = moment })
  pub ends : (channel : List ℕ) (moment : ℤ) → is_channel_name channel ≡ true → takes (record { command = End channel; moment = moment })
