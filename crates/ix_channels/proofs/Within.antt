-- Within the bounds nothing that a command makes of channels is too large to be said.
use Rattle.std.proofs.Common.{◌≡◌, ℕ, ℤ, ◌<◌, ◌^◌, List, [], ◌++◌, sym, subst, length, get_or}
use Rattle.std.specs.Prelude.{Option, Some}
use Rattle.std.specs.List.{position}
use Rattle.ix_base.specs.Clocks.{clamped}
use Rattle.ix_base.specs.Stream.{Dated, dated}
use Rattle.ix_base.specs.declared.events.ChannelMeta.{ChannelMeta}
use Rattle.ix_base.specs.declared.events.Spot.{Spot}
use Rattle.ix_coding.specs.Spelling.{IsShort}
use Rattle.ix_items.specs.Spelling.{IsMeta}
use Rattle.ix_state.proofs.Brief.{last_chance_brief}
use Rattle.ix_model.specs.Given.{Chooser}
use Rattle.ix_model.specs.State.{State, ChannelHistory}
use Rattle.ix_model.specs.Step.{state_after, begun, longer, stepped}
use Rattle.ix_model.specs.declared.commands.Command.{Command}
use Rattle.ix_model.specs.declared.commands.Command.TheVariants.{Begin, Block, End}
use Rattle.ix_model.specs.declared.commands.TimedCommand.{TimedCommand}
use Rattle.ix_parse.specs.Carry.{HasMoments}
use Rattle.ix_parse.specs.Limits.{KeepsLimits}
use Rattle.ix_parse.specs.Standing.{StandsFor}
use Rattle.ix_props.specs.declared.settings.Settings.{Settings}
use Rattle.ix_state.specs.Causes.{has_name}
use Rattle.ix_state.specs.Held.{IsOpen}
use Rattle.ix_state.specs.declared.state.StoreState.{StoreState}
use Rattle.ix_state.specs.declared.state.OpenChannel.{OpenChannel}
use Rattle.ix_channels.specs.Begun.{resolved, IsBegun}
use Rattle.ix_channels.specs.Sizes.{HasBriefChance}
use Rattle.ix_channels.specs.Working.{MayBeDone, StaysWithin}
use Rattle.ix_channels.proofs.BegunLemmas.{briefs, begun_is}
use Rattle.ix_channels.proofs.Sized.{sized_short}
use Rattle.ix_channels.proofs.TakenLemmas.{in_range, more_moments, block_life, end_life}

-- a channel in memory stands for a stream, and what is said of it has a spelling
pub record IsFine (o : OpenChannel) : Type 0 where
  pub settings : Settings
  pub stated : ChannelMeta
  pub stream : List Dated
  pub stands : StandsFor settings stated stream o.channel
  pub limits : KeepsLimits settings stated
  pub moments : HasMoments stream
  pub name : IsShort o.name
  pub meta : IsMeta o.meta

fine_of : (life : ChannelHistory) (o : OpenChannel) → IsOpen life o → IsShort life.name × IsMeta life.meta → IsFine o
fine_of life o i short = record {
  settings = i.settings;
  stated = life.meta;
  stream = life.stream;
  stands = i.stands;
  limits = i.limits;
  moments = i.moments;
  name = subst (λ (n : List ℕ). length n < 2 ^ 32) (sym i.name) short.0;
  meta = subst IsMeta (sym i.meta) short.1;
}

pub brief_chance : (choose : Chooser) (history : List TimedCommand) (command : Command) (moment : ℤ) (held : StoreState) →
    MayBeDone choose history command moment held →
    HasBriefChance held.config.limits
brief_chance choose history command moment held may =
    let m : State = state_after choose history in
    last_chance_brief m.force held.config.limits may.sees.set (briefs m held may.sees)

pub begin_fine : (choose : Chooser) (history : List TimedCommand) (channel : List ℕ) (meta : ChannelMeta) (moment : ℤ) (held : StoreState)
    (o : OpenChannel) →
    MayBeDone choose history (Begin channel meta) moment held → StaysWithin choose history (Begin channel meta) moment →
    IsBegun held.config.props channel (resolved held.config.limits meta) o → (settings : Settings) × (stated : ChannelMeta)
    × (StandsFor settings stated [] o.channel × IsShort o.name × IsMeta o.meta)
unfolding fine_of
begin_fine choose history channel meta moment held o may within b =
    let m : State = state_after choose history in
    let life : ChannelHistory = begun choose m.force channel meta in
    let both = begun_is choose history channel meta moment held o may b in
    let fine = fine_of life o both.1 (sized_short (stepped choose m (Begin channel meta) moment) channel life within.behind both.0) in
    (fine.settings, fine.stated, (fine.stands, fine.name, fine.meta))

pub block_fine : (choose : Chooser) (history : List TimedCommand) (channel bytes : List ℕ) (spot : Option Spot) (moment : ℤ)
    (held : StoreState) (at : ℕ) (o : OpenChannel) →
    MayBeDone choose history (Block channel bytes spot) moment held → StaysWithin choose history (Block channel bytes spot) moment →
    position (has_name channel) held.channels.items ≡ Some at → o ≡ get_or held.channels.items at o → IsFine o
block_fine choose history channel bytes spot moment held at o may within place there =
    let m : State = state_after choose history in
    let found = block_life choose history channel bytes spot moment held at o may place there in
    fine_of found.0 o found.1.0
    (sized_short (stepped choose m (Block channel bytes spot) moment) channel (longer bytes moment found.0) within.behind found.1.1)

pub block_moments : (choose : Chooser) (history : List TimedCommand) (command : Command) (bytes : List ℕ) (moment : ℤ) (held : StoreState)
    (stream : List Dated) →
    MayBeDone choose history command moment held → HasMoments stream → HasMoments (stream ++ dated bytes (clamped moment))
block_moments choose history command bytes moment held stream may moments =
    subst (λ (z : ℤ). HasMoments (stream ++ dated bytes z)) (sym (in_range moment may.in_range))
    (more_moments stream bytes moment moments may.in_range)

pub end_fine : (choose : Chooser) (history : List TimedCommand) (channel : List ℕ) (moment : ℤ) (held : StoreState) (at : ℕ)
    (o : OpenChannel) →
    MayBeDone choose history (End channel) moment held → StaysWithin choose history (End channel) moment →
    position (has_name channel) held.channels.items ≡ Some at → o ≡ get_or held.channels.items at o → IsFine o
end_fine choose history channel moment held at o may within place there =
    let m : State = state_after choose history in
    let found = end_life choose history channel moment held at o may place there in
    fine_of found.0 o found.1.0 (sized_short m channel found.0 within.before found.1.1)
