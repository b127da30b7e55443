-- What settings that mean the same come to.
use Rattle.std.specs.Prelude.{◌≡◌, Bool, List}
use Rattle.ix_base.specs.Stream.{Dated}
use Rattle.ix_base.specs.declared.events.ChannelMeta.{ChannelMeta}
use Rattle.ix_parse.specs.Carry.{rules_of, carry_of}
use Rattle.ix_parse.specs.Settled.{settled}
use Rattle.ix_props.specs.Same.{AreSame}
use Rattle.ix_props.specs.declared.settings.Settings.{Settings}

-- they settle the same of every stream, open or closed
abbrev pub SettleTheSame : Type 0
SettleTheSame =
    (a b : Settings) (meta : ChannelMeta) (stream : List Dated) (closed : Bool) → AreSame a b →
    settled a meta stream closed ≡ settled b meta stream closed

-- and the same is carried, by the same rules
abbrev pub CarryTheSame : Type 0
CarryTheSame = (a b : Settings) (stream : List Dated) → AreSame a b → (rules_of a ≡ rules_of b) × (carry_of a stream ≡ carry_of b stream)
