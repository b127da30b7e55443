-- The open channels of a state keep the limits of what is stated, and their streams have moments in
-- range, whatever commands came.
use Rattle.std.proofs.Common.{ℕ, ◌≤◌, ℤ, Bool, true, false, List, [], ◌∷◌, ◌++◌, length, arith}
use Rattle.std.specs.Prelude.{Option, Some, None, IfSome, is_some, if◌then◌else◌, pos, ◌≤ℤ◌, bytes_eq, unwrap_or}
use Rattle.std.specs.List.{AllByRecursion}
use Rattle.std.proofs.lemmas.Int.{ints}
use Rattle.ix_base.specs.Clocks.{clamped, latest}
use Rattle.ix_base.specs.Stream.{Dated, dated}
use Rattle.ix_base.specs.declared.events.ChannelMeta.{ChannelMeta}
use Rattle.ix_parse.specs.Form.{IsMoment}
use Rattle.ix_items.specs.declared.items.Kept.{Kept}
use Rattle.ix_state.specs.Configs.{IsChooser}
use Rattle.ix_state.specs.Taken.{IsStated, IsTakenCommand, IsTaken}
use Rattle.ix_model.specs.Given.{Chooser, default_index, resolved}
use Rattle.ix_model.specs.State.{State, ChannelHistory, life_name, life_in, empty}
use Rattle.ix_model.specs.Step.{longer, begun, channels, effective, step}
use Rattle.ix_model.specs.declared.commands.Command.{Command}
use Rattle.ix_model.specs.declared.commands.Command.TheVariants.{Begin, Block, End, Tick, Roll, Thaw, Configure, Direct}
use Rattle.ix_model.specs.declared.commands.TimedCommand.{TimedCommand}
use Rattle.ix_model.proofs.Named.{by_test, all_change, all_put}
use Rattle.ix_parse.specs.Carry.{HasMoments}
use Rattle.ix_parse.specs.Limits.{KeepsLimits}
use Rattle.ix_catalog.specs.Lists.{without, insert, stands_before}
use Rattle.ix_recovery.proofs.RangeBrief.{default_brief, source_type_brief}
use Rattle.ix_state.proofs.Loaded.{AreLoaded, none_loaded, still_loaded}

-- ---- moments

later : (last moment : ℤ) → IsMoment last → IsMoment (effective last moment)
later last moment h = (from_start last moment h.0, to_end last moment h.1)
  where
    from_start : (a b : ℤ) → pos 0 ≤ℤ a → pos 0 ≤ℤ effective a b
    from_start a b l = grind (arith, ints, l)

    clamped_most : (b : ℤ) → clamped b ≤ℤ latest
    clamped_most b = grind (arith, ints)

    to_end : (a b : ℤ) → a ≤ℤ latest → effective a b ≤ℤ latest
    to_end a b l = let c = clamped_most b in grind (arith, ints, l, c)

dated_moments : (bytes : List ℕ) (moment : ℤ) → IsMoment moment → HasMoments (dated bytes moment)
dated_moments [] moment h = tt
dated_moments (b ∷ bytes) moment h = (h, dated_moments bytes moment h)

pub more_moments : (stream : List Dated) (bytes : List ℕ) (moment : ℤ) → HasMoments stream → IsMoment moment →
    HasMoments (stream ++ dated bytes moment)
more_moments [] bytes moment s h = dated_moments bytes moment h
more_moments (d ∷ stream) bytes moment s h = (s.0, more_moments stream bytes moment s.1 h)

-- ---- what is stated

index_by : (force : List Kept) (o : Option (List ℕ)) → AreLoaded force → IfSome o (λ (name : List ℕ). length name ≤ 1024) →
    length (unwrap_or o (default_index force)) ≤ 1024
index_by force None h b = default_brief force h
index_by force (Some name) h b = b

-- the settings that are chosen for what is stated, and the metadata with the index that holds, keep
-- the limits
pub chosen_keep : (choose : Chooser) (force : List Kept) (meta : ChannelMeta) → IsChooser choose → AreLoaded force → IsStated meta →
    KeepsLimits (choose force (resolved force meta)) (resolved force meta)
chosen_keep choose force meta chooser h s = record {
  host = s.host;
  source = s.source;
  sourcetype = source_type_brief choose force (resolved force meta) chooser h s.sourcetype;
  index = index_by force meta.index h s.index;
}

-- ---- lives

pub record IsLimited (life : ChannelHistory) : Type 0 where
  pub limits : KeepsLimits life.settings life.meta
  pub moments : HasMoments life.stream

begun_limited : (choose : Chooser) (force : List Kept) (channel : List ℕ) (meta : ChannelMeta) → IsChooser choose → AreLoaded force →
    IsStated meta →
    IsLimited (begun choose force channel meta)
begun_limited choose force channel meta chooser h s = record { limits = chosen_keep choose force meta chooser h s; moments = tt }

longer_limited : (bytes : List ℕ) (moment : ℤ) (life : ChannelHistory) → IsMoment moment → IsLimited life →
    IsLimited (longer bytes moment life)
longer_limited bytes moment life m h = record { limits = h.limits; moments = more_moments life.stream bytes moment h.moments m }

all_without : (name : List ℕ) (lives : List ChannelHistory) → AllByRecursion IsLimited lives →
    AllByRecursion IsLimited (without life_name name lives)
all_without name [] h = tt
all_without name (l ∷ lives) h = by_test (bytes_eq l.name name) (λ t. rw t h.1) (λ t. rw t (h.0, all_without name lives h.1))

all_with : (life : ChannelHistory) (lives : List ChannelHistory) (b : Bool) → IsLimited life → AllByRecursion IsLimited lives →
    AllByRecursion IsLimited (if b then lives else insert life_name life lives)
all_with life lives true l h = h
all_with life lives false l h = all_put IsLimited (stands_before life_name) life lives l h

lives_limited : (choose : Chooser) (m : State) (command : Command) (moment : ℤ) → IsChooser choose → AreLoaded m.force → IsMoment moment →
    AllByRecursion IsLimited m.channels → IsTakenCommand command → AllByRecursion IsLimited (channels choose m command moment)
lives_limited choose m (Begin channel meta) moment chooser l i h t =
    all_with (begun choose m.force channel meta) m.channels (is_some (life_in m channel))
    (begun_limited choose m.force channel meta chooser l t.1) h
lives_limited choose m (Block channel bytes spot) moment chooser l i h t =
    all_change IsLimited life_name channel (longer bytes moment) m.channels h (λ life k. longer_limited bytes moment life i k)
lives_limited choose m (End channel) moment chooser l i h t = all_without channel m.channels h
lives_limited choose m Tick moment chooser l i h t = h
lives_limited choose m (Roll index) moment chooser l i h t = h
lives_limited choose m (Thaw index id) moment chooser l i h t = h
lives_limited choose m (Configure config) moment chooser l i h t = tt
lives_limited choose m (Direct events) moment chooser l i h t = h

-- ---- states

pub record IsReached (m : State) : Type 0 where
  pub loaded : AreLoaded m.force
  pub lives : AllByRecursion IsLimited m.channels
  pub last : IsMoment m.last

pub first_reached : IsReached empty
first_reached = record { loaded = none_loaded; lives = tt; last = (start, end) }
  where
    start : pos 0 ≤ℤ pos 0
    start = grind (arith, ints)

    end : pos 0 ≤ℤ latest
    end = grind (arith, ints)

pub moment_of : (m : State) (order : TimedCommand) → IsReached m → IsMoment (effective m.last order.moment)
moment_of m order h = later m.last order.moment h.last

pub next_reached : (choose : Chooser) (m : State) (order : TimedCommand) → IsChooser choose → IsReached m → IsTaken order →
    IsReached (step choose m order)
next_reached choose m order chooser h t = record {
  loaded = still_loaded m.force order.command h.loaded t;
  lives = lives_limited choose m order.command (effective m.last order.moment) chooser h.loaded (moment_of m order h) h.lives t;
  last = moment_of m order h;
}
