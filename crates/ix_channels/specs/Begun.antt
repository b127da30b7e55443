-- A channel that is begun, by the settings in memory.
use Rattle.std.specs.Prelude.{◌≡◌, ℕ, List, [], Some, unwrap_or}
use Rattle.ix_base.specs.declared.events.ChannelMeta.{ChannelMeta}
use Rattle.ix_life.specs.declared.sets.LimitSet.{LimitSet}
use Rattle.ix_parse.specs.Standing.{StandsFor}
use Rattle.ix_parse.specs.declared.channel.Channel.{Channel}
use Rattle.ix_props.specs.Settings.{AreSettings, AreUsable}
use Rattle.ix_props.specs.declared.props.PropsEntry.{PropsEntry}
use Rattle.ix_props.specs.declared.settings.Settings.{Settings}
use Rattle.ix_state.specs.declared.state.OpenChannel.{OpenChannel}

-- the metadata with the index that holds
abbrev pub resolved : LimitSet → ChannelMeta → ChannelMeta
resolved set meta = record {
  host = meta.host;
  source = meta.source;
  sourcetype = meta.sourcetype;
  index = Some (unwrap_or meta.index set.default_database);
}

-- it has no byte yet, and goes by the settings that are chosen for it
pub record IsStarted (entries : List PropsEntry) (meta : ChannelMeta) (channel : Channel) : Type 0 where
  pub settings : Settings
  pub chosen : AreSettings entries meta settings
  pub usable : AreUsable settings
  pub stands : StandsFor settings meta [] channel

-- such a channel is open under a name
pub record IsBegun (entries : List PropsEntry) (name : List ℕ) (meta : ChannelMeta) (o : OpenChannel) : Type 0 where
  pub name_is : o.name ≡ name
  pub meta_is : o.meta ≡ meta
  pub started : IsStarted entries meta o.channel
