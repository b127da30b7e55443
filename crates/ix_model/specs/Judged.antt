-- Why a command is refused, the commands that an accepted one adds, and what it answers.
use Rattle.std.specs.Prelude.{◌+ℤ◌, ◌&&◌, ◌||◌, ℕ, ℤ, pos, Bool, true, false, not, if◌then◌else◌, nat_le, int_lt, List, [], ◌∷◌, length}
use Rattle.std.specs.Prelude.{Option, Some, None, is_some, unwrap_or, slice_get}
use Rattle.std.specs.List.{count_by, sum_by, list_all}
use Rattle.ix_life.specs.Placing.{is_open}
use Rattle.ix_model.specs.Buckets.{Standing, live, frozen, Slot, Index, buckets}
use Rattle.ix_model.specs.Given.{is_configured, default_index, rotation}
use Rattle.ix_model.specs.Keeping as kept
use Rattle.ix_catalog.specs.Lists.{find}
use Rattle.ix_model.specs.State.{State, index_name, life_in, slots_in}
use Rattle.ix_model.specs.Step.{effective, turn_in}
use Rattle.ix_model.specs.declared.answers.Refusal.{Refusal}
use Rattle.ix_model.specs.declared.answers.Refusal.TheVariants as refusals
use Rattle.ix_model.specs.declared.commands.Command.{Command}
use Rattle.ix_model.specs.declared.commands.Command.TheVariants.{Begin, Block, End, Tick, Roll, Thaw, Configure, Direct}
use Rattle.ix_model.specs.declared.commands.Direct.{Direct as DirectEvent}
use Rattle.ix_model.specs.declared.commands.TimedCommand.{TimedCommand}

-- ---- refusals, by the state before the command

-- the first cause that holds
abbrev pub first : List (Bool × Refusal) → Option Refusal
first [] = None
first (c ∷ causes) = if c.0 then Some c.1 else first causes

abbrev pub is_begun : State → List ℕ → Bool
is_begun m channel = is_some (life_in m channel)

-- an index is retired where it is not configured and has a bucket or an entry in the ledger
abbrev pub is_known : State → List ℕ → Bool
is_known m index = is_configured m.force index || is_some (find index_name index m.catalog.indexes)

abbrev pub is_configured_or_default : State → Option (List ℕ) → Bool
is_configured_or_default m index = is_configured m.force (unwrap_or index (default_index m.force))

abbrev pub by_thawed : Option ℕ → Bool → Option Refusal
by_thawed None is_thawed = Some refusals.NotArchived
by_thawed (Some archive) is_thawed = if is_thawed then Some refusals.AlreadyThawed else None

-- a bucket that is not frozen has no entry in the ledger
abbrev pub by_standing : Standing → Option Refusal
by_standing (live b) = Some refusals.NoBucket
by_standing (frozen e thawed) = by_thawed e.archive (is_some thawed)

abbrev pub by_slot : Option Slot → Option Refusal
by_slot None = Some refusals.NoBucket
by_slot (Some s) = by_standing s.standing

abbrev pub most_channels : ℕ
most_channels = 256

abbrev pub judged : State → Command → Option Refusal
judged m (Begin channel meta) = first (
    (is_begun m channel, refusals.ChannelOpen)
    ∷ (not (is_configured_or_default m meta.index), refusals.UnknownIndex)
    ∷ (nat_le most_channels (length m.channels), refusals.TooManyChannels)
    ∷ [])
judged m (Block channel bytes spot) = first ((not (is_begun m channel), refusals.NoChannel) ∷ [])
judged m (End channel) = first ((not (is_begun m channel), refusals.NoChannel) ∷ [])
judged m Tick = None
judged m (Roll index) = first ((not (is_known m index), refusals.UnknownIndex) ∷ [])
judged m (Thaw index id) =
    if is_known m index then by_slot (slice_get (slots_in m.catalog.indexes index) id) else Some refusals.UnknownIndex
judged m (Configure config) = None
judged m (Direct events) =
    first ((not (list_all (λ (d : DirectEvent). is_configured_or_default m d.meta.index) events), refusals.UnknownIndex) ∷ [])

-- the first cause by which a store refuses a command, those of bounds and of memory aside
abbrev pub refusal : Bool → State → Command → Option Refusal
refusal closed m command = if closed then Some refusals.Closed else judged m command

-- ---- what an accepted command adds to the history

-- a command that is preceded by a Tick where one is due
abbrev pub waits_for_tick : Command → Bool
waits_for_tick (Begin channel meta) = true
waits_for_tick (Block channel bytes spot) = true
waits_for_tick (End channel) = true
waits_for_tick Tick = false
waits_for_tick (Roll index) = false
waits_for_tick (Thaw index id) = false
waits_for_tick (Configure config) = false
waits_for_tick (Direct events) = true

-- the moment is a rotation or more past the last Tick
abbrev pub is_tick_due : State → ℤ → Bool
is_tick_due m moment = not (int_lt moment (m.tick +ℤ pos (rotation m.force)))

abbrev pub needs_tick : State → TimedCommand → Bool
needs_tick m order = waits_for_tick order.command && is_tick_due m (effective m.last order.moment)

abbrev pub adds : State → TimedCommand → List TimedCommand
adds m order =
    if needs_tick m order then record { command = Tick; moment = order.moment } ∷ order ∷ [] else order ∷ []

-- ---- answers

-- a command that draws a number of the run
abbrev pub draws : Command → Bool
draws (Begin channel meta) = false
draws (Block channel bytes spot) = true
draws (End channel) = true
draws Tick = false
draws (Roll index) = false
draws (Thaw index id) = false
draws (Configure config) = false
draws (Direct events) = true

-- how many buckets a command rolls, freezes or thaws
abbrev pub moved : State → Command → ℤ → ℕ
moved m (Begin channel meta) moment = 0
moved m (Block channel bytes spot) moment = 0
moved m (End channel) moment = 0
moved m Tick moment = sum_by (λ (i : Index). kept.many_freeze (turn_in m.force moment i) i.slots) m.catalog.indexes
moved m (Roll index) moment = count_by is_open (buckets (slots_in m.catalog.indexes index))
moved m (Thaw index id) moment = 1
moved m (Configure config) moment = 0
moved m (Direct events) moment = 0
