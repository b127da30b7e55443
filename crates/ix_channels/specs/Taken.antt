-- What an open channel makes of bytes and of its end, for each stream that it may stand for.
use Rattle.std.specs.Prelude.{◌≡◌, ℕ, ℤ, true, false, List, [], ◌∷◌, ◌++◌}
use Rattle.ix_base.specs.Clocks.{clamped}
use Rattle.ix_base.specs.Stream.{Dated, dated}
use Rattle.ix_base.specs.declared.events.ChannelMeta.{ChannelMeta}
use Rattle.ix_base.specs.declared.events.Routed.{Routed}
use Rattle.ix_parse.specs.Spelling.{spell}
use Rattle.ix_items.specs.declared.items.Item.{Item}
use Rattle.ix_items.specs.declared.items.Item.TheVariants as items
use Rattle.ix_parse.specs.Carry.{carry_of}
use Rattle.ix_parse.specs.Settled.{settled}
use Rattle.ix_parse.specs.Standing.{Kept, StandsFor}
use Rattle.ix_props.specs.declared.settings.Settings.{Settings}
use Rattle.ix_state.specs.declared.state.OpenChannel.{OpenChannel}
use Rattle.ix_channels.specs.declared.feeding.Fed.{Fed}

-- the item of an open channel with this stream
abbrev pub item_of : List ℕ → ChannelMeta → Settings → List Dated → Item
item_of name meta settings stream = items.Channel name meta (spell (carry_of settings stream))

-- the bytes came behind a stream: the channel stands for the longer one, and these outcomes are
-- settled by them
abbrev pub TakesIn : Settings → ChannelMeta → List Dated → List Dated → Kept → List Routed → Type 0
TakesIn settings meta stream later channel outcomes =
    StandsFor settings meta (stream ++ later) channel × (settled settings meta (stream ++ later) false ≡ settled settings meta stream false
    ++ outcomes)

-- a channel took the bytes in, of whatever stream it stood for
pub record IsFed (o : OpenChannel) (bytes : List ℕ) (moment : ℤ) (fed : Fed) : Type 0 where
  pub takes : (settings : Settings) (meta : ChannelMeta) (stream : List Dated) → StandsFor settings meta stream o.channel →
      TakesIn settings meta stream (dated bytes (clamped moment)) fed.channel fed.outcomes
  pub said : (settings : Settings) (meta : ChannelMeta) (stream : List Dated) → StandsFor settings meta stream o.channel →
      fed.items ≡ item_of o.name o.meta settings (stream ++ dated bytes (clamped moment)) ∷ []

-- the end of whatever stream a channel stood for settles these outcomes
abbrev pub Settles : Kept → List Routed → Type 0
Settles channel outcomes = (settings : Settings) (meta : ChannelMeta) (stream : List Dated) → StandsFor settings meta stream channel →
    settled settings meta stream true ≡ settled settings meta stream false ++ outcomes
