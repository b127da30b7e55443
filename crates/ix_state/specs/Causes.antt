-- Why a command is refused, by what a store has in memory. That it is so by the state that the
-- history leads to, a law of `refusal` says.
use Rattle.std.specs.Prelude.{◌+ℤ◌, ◌*◌, ◌&&◌, ℕ, ℤ, pos, Bool, not, if◌then◌else◌, nat_le, int_lt, List, [], ◌∷◌, length, Option, Some}
use Rattle.std.specs.Prelude.{None, is_some, unwrap_or, bytes_eq}
use Rattle.std.specs.List.{list_all, list_any}
use Rattle.ix_base.specs.declared.events.ChannelMeta.{ChannelMeta}
use Rattle.ix_items.specs.declared.items.Entry.{Entry}
use Rattle.ix_life.specs.Limits.{limits_of}
use Rattle.ix_life.specs.declared.views.IndexView.{IndexView}
use Rattle.ix_model.specs.Judged.{first, by_thawed, most_channels, waits_for_tick}
use Rattle.ix_model.specs.Ledger.{is_of}
use Rattle.ix_model.specs.Step.{effective}
use Rattle.ix_model.specs.declared.answers.Refusal.{Refusal}
use Rattle.ix_model.specs.declared.answers.Refusal.TheVariants as refusals
use Rattle.ix_model.specs.declared.commands.Command.{Command}
use Rattle.ix_model.specs.declared.commands.Command.TheVariants.{Begin, Block, End, Tick, Roll, Thaw, Configure, Direct}
use Rattle.ix_model.specs.declared.commands.Direct.{Direct as DirectEvent}
use Rattle.ix_model.specs.declared.commands.TimedCommand.{TimedCommand}
use Rattle.ix_catalog.specs.Lists.{find}
use Rattle.ix_catalog.specs.Shelves.{view_name, by_id}
use Rattle.ix_state.specs.declared.state.StoreState.{StoreState}
use Rattle.ix_state.specs.declared.state.OpenChannel.{OpenChannel}

-- ---- what is in memory

abbrev pub has_name : List ℕ → OpenChannel → Bool
has_name channel o = bytes_eq o.name channel

abbrev pub is_open : StoreState → List ℕ → Bool
is_open held channel = list_any (has_name channel) held.channels.items

-- the index, which is the default one where none is named, is configured
abbrev pub is_configured : StoreState → Option (List ℕ) → Bool
is_configured held index = is_some (limits_of held.config.limits (unwrap_or index held.config.limits.default_database))

-- what is seen of an index
abbrev pub seen : StoreState → List ℕ → Option IndexView
seen held index = find view_name index held.view.indexes

-- the entry of a bucket in the ledger
abbrev pub entry_in : List ℕ → ℕ → List Entry → Option Entry
entry_in index id [] = None
entry_in index id (e ∷ es) = if is_of index id e then Some e else entry_in index id es

-- ---- causes

-- by the bucket's entry, and whether a bucket of its number is seen
abbrev pub by_entry : Option Entry → Bool → Option Refusal
by_entry None is_seen = Some refusals.NoBucket
by_entry (Some e) is_seen = by_thawed e.archive is_seen

abbrev pub by_view : List Entry → List ℕ → ℕ → Option IndexView → Option Refusal
by_view ledger index id None = Some refusals.UnknownIndex
by_view ledger index id (Some v) = by_entry (entry_in index id ledger) (is_some (by_id id v.buckets))

abbrev pub begin_cause : StoreState → List ℕ → ChannelMeta → Option Refusal
begin_cause held channel meta = first (
    (is_open held channel, refusals.ChannelOpen)
    ∷ (not (is_configured held meta.index), refusals.UnknownIndex)
    ∷ (nat_le most_channels (length held.channels.items), refusals.TooManyChannels)
    ∷ [])

abbrev pub channel_cause : StoreState → List ℕ → Option Refusal
channel_cause held channel = first ((not (is_open held channel), refusals.NoChannel) ∷ [])

abbrev pub roll_cause : StoreState → List ℕ → Option Refusal
roll_cause held index = first ((not (is_some (seen held index)), refusals.UnknownIndex) ∷ [])

abbrev pub direct_cause : StoreState → List DirectEvent → Option Refusal
direct_cause held events =
    first ((not (list_all (λ (d : DirectEvent). is_configured held d.meta.index) events), refusals.UnknownIndex) ∷ [])

abbrev pub cause : StoreState → Command → Option Refusal
cause held (Begin channel meta) = begin_cause held channel meta
cause held (Block channel bytes spot) = channel_cause held channel
cause held (End channel) = channel_cause held channel
cause held Tick = None
cause held (Roll index) = roll_cause held index
cause held (Thaw index id) = by_view held.view.ledger index id (seen held index)
cause held (Configure config) = None
cause held (Direct events) = direct_cause held events

-- ---- when a Tick is due

-- so many seconds or more are past
abbrev pub is_past : ℤ → ℤ → ℕ → Bool
is_past moment tick secs = not (int_lt moment (tick +ℤ pos (secs * 1000000)))

abbrev pub needs_tick : StoreState → TimedCommand → Bool
needs_tick held order =
    waits_for_tick order.command && is_past (effective held.last order.moment) held.tick held.config.limits.rotate_secs
