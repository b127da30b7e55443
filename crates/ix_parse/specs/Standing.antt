-- What a channel stands for.
use Rattle.std.specs.Prelude.{◌≡◌, ℤ, false, List, None, Option}
use Rattle.ix_base.specs.Stream.{Dated}
use Rattle.ix_base.specs.declared.events.ChannelMeta.{ChannelMeta}
use Rattle.ix_lines.specs.Breaks.{breaks_by}
use Rattle.ix_lines.specs.Lines.{effective}
use Rattle.ix_lines.specs.Parts as parts
use Rattle.ix_merge.specs.Stands as merging
use Rattle.ix_parse.specs.Marks.{marked}
use Rattle.ix_parse.specs.Settled.{channel_lines, events_of, latest_of}
use Rattle.ix_props.specs.declared.settings.Settings.{Settings}

-- what a channel is to its callers
pub record Kept : Type 0 where
  pub settings : Settings
  pub meta : ChannelMeta
  -- the lines and the events that are open
  pub lines : parts.Held
  pub merge : merging.Merging
  -- the latest time that was read and accepted
  pub latest : Option ℤ

-- the channel has taken in this stream, with these settings and metadata
pub record StandsFor (settings : Settings) (meta : ChannelMeta) (stream : List Dated) (channel : Kept) : Type 0 where
  pub settings_are : channel.settings ≡ settings
  pub meta_is : channel.meta ≡ meta
  pub breaks_are : breaks_by channel.lines.breaker ≡ breaks_by settings.breaker
  pub lines_are : parts.StandsFor (breaks_by settings.breaker) (effective settings.truncate) stream channel.lines.parts
  pub merges : channel.merge.on ≡ settings.merge.on
  pub most_lines : channel.merge.max_lines ≡ settings.merge.max_lines
  pub events_are : merging.Holds (marked settings.merge settings.time (channel_lines settings stream false)) channel.merge
  pub latest_is : channel.latest ≡ latest_of settings.time None (events_of settings stream false)
