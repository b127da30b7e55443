-- The causes by what is in memory are those by the state that the history leads to.
use Rattle.std.proofs.Common.{◌≡◌, ℕ, ℤ, suc, Bool, List, [], ◌∷◌, refl, sym, ap, ◌∙◌}
use Rattle.std.specs.Prelude.{Option, is_some, if◌then◌else◌, filter, option_to_list, slice_get, ◌||◌, ◌&&◌, not, nat_le, length}
use Rattle.std.specs.Prelude.{unwrap_or, bytes_eq}
use Rattle.std.specs.List.{AllZip, list_any, list_all}
use Rattle.std.specs.List.Sorted.{IsPermutation}
use Rattle.std.specs.Option.{option_map}
use Rattle.std.proofs.lemmas.List.Sorted.{sum_by-IsPermutation}
use Rattle.ix_items.specs.declared.items.Entry.{Entry}
use Rattle.ix_items.specs.declared.items.Kept.{Kept}
use Rattle.ix_life.specs.Limits.{limits_of}
use Rattle.ix_life.specs.Stanzas.{is_index}
use Rattle.ix_life.specs.declared.sets.LimitSet.{LimitSet}
use Rattle.ix_model.specs.Given.{Chooser, entries, default_index}
use Rattle.ix_model.specs.Given as given
use Rattle.ix_model.specs.Judged.{first, is_begun, is_configured_or_default, most_channels, judged, waits_for_tick}
use Rattle.ix_model.specs.Judged as machine
use Rattle.ix_model.specs.Keeping.{entered_at}
use Rattle.ix_model.specs.Ledger.{AreSame, is_of}
use Rattle.ix_model.specs.Shown.{index_view}
use Rattle.ix_model.specs.State.{State, ChannelHistory, index_name, life_name, slots_in}
use Rattle.ix_model.specs.Step.{state_after, effective}
use Rattle.ix_model.specs.declared.answers.Refusal.{Refusal}
use Rattle.ix_model.specs.declared.answers.Refusal.TheVariants as refusals
use Rattle.ix_model.specs.declared.commands.Command.{Command}
use Rattle.ix_model.specs.declared.commands.Command.TheVariants.{Begin, Block, End, Tick, Roll, Thaw, Configure, Direct}
use Rattle.ix_model.specs.declared.commands.Direct.{Direct as DirectEvent}
use Rattle.ix_model.specs.declared.commands.TimedCommand.{TimedCommand}
use Rattle.ix_model.proofs.Freezing.{filter_sum}
use Rattle.ix_model.proofs.Named.{by_test}
use Rattle.ix_model.proofs.Singles.{whole_after}
use Rattle.ix_model.proofs.Stepping.{sound_after}
use Rattle.ix_catalog.specs.Lists.{find}
use Rattle.ix_catalog.specs.Shelves.{view_name}
use Rattle.ix_catalog.specs.declared.index_table.IndexTable.{IndexTable}
use Rattle.ix_model.specs.Shelved.{IsSet}
use Rattle.ix_model.proofs.Listing.{or_fresh}
use Rattle.ix_state.specs.Causes.{has_name, is_configured, seen, by_view, cause, is_past, needs_tick}
use Rattle.ix_state.specs.Held.{IsOpen, SeesChannels, SeesStorage, shelves_of}
use Rattle.ix_state.specs.declared.state.StoreState.{StoreState}
use Rattle.ix_state.specs.declared.state.OpenChannel.{OpenChannel}
use Rattle.ix_state.proofs.Known.{seen_is, known_is}
use Rattle.ix_state.proofs.Thawing.{thaw_is}

-- ---- channels

open_is : (lives : List ChannelHistory) (opens : List OpenChannel) (name : List ℕ) → AllZip IsOpen lives opens →
    list_any (has_name name) opens ≡ is_some (find life_name name lives)
open_is [] [] name h = refl
open_is [] (o ∷ os) name h = absurd h
open_is (l ∷ ls) [] name h = absurd h
open_is (l ∷ ls) (o ∷ os) name h =
    ap (λ (n : List ℕ). bytes_eq n name || list_any (has_name name) os) h.0.name
    ∙ by_test (bytes_eq l.name name) (λ t. rw t refl) (λ t. rw t (open_is ls os name h.1))

as_many : (lives : List ChannelHistory) (opens : List OpenChannel) → AllZip IsOpen lives opens → length opens ≡ length lives
as_many [] [] h = refl
as_many [] (o ∷ os) h = absurd h
as_many (l ∷ ls) [] h = absurd h
as_many (l ∷ ls) (o ∷ os) h = ap (λ (n : ℕ). suc n) (as_many ls os h.1)

-- ---- indexes

index_is : (force : List Kept) (set : LimitSet) (name : List ℕ) → IsSet force set →
    is_some (limits_of set name) ≡ given.is_configured force name
index_is force set name h =
    ap is_some (h.limits.limits name)
    ∙ by_test (is_index (entries force) name) (λ t. rw t refl) (λ t. rw t refl)

configured_is : (force : List Kept) (set : LimitSet) (index : Option (List ℕ)) → IsSet force set →
    is_some (limits_of set (unwrap_or index set.default_database)) ≡ given.is_configured force (unwrap_or index (default_index force))
configured_is force set index h =
    ap (λ (d : List ℕ). is_some (limits_of set (unwrap_or index d))) h.limits.default_database
    ∙ index_is force set (unwrap_or index (default_index force)) h

all_configured : (held : StoreState) (m : State) (events : List DirectEvent) → IsSet m.force held.config.limits →
    list_all (λ (d : DirectEvent). is_configured held d.meta.index) events ≡ list_all
    (λ (d : DirectEvent). is_configured_or_default m d.meta.index) events
all_configured held m [] h = refl
all_configured held m (d ∷ events) h =
    ap (λ (b : Bool). b && list_all (λ (x : DirectEvent). is_configured held x.meta.index) events)
    (configured_is m.force held.config.limits d.meta.index h)
    ∙ ap (λ (b : Bool). is_configured_or_default m d.meta.index && b) (all_configured held m events h)

seen_here : (m : State) (held : StoreState) (index : List ℕ) → SeesStorage m (shelves_of held) held.view.ledger held.last held.tick →
    seen held index ≡ option_map (index_view m.force) (or_fresh (given.is_configured m.force index) index
    (find index_name index m.catalog.indexes))
seen_here m held index h =
    ap (λ (s : IndexTable). find view_name index s.indexes) h.shelves_are
    ∙ seen_is m.force m.catalog.indexes index

-- the entries of one bucket are as many in a ledger in another order
same_here : (choose : Chooser) (history : List TimedCommand) (ledger : List Entry) (index : List ℕ) (id : ℕ) →
    IsPermutation ledger (state_after choose history).catalog.ledger →
    AreSame (filter (is_of index id) ledger) (option_to_list
    (entered_at (slice_get (slots_in (state_after choose history).catalog.indexes index) id)))
same_here choose history ledger index id h g =
    filter_sum g (is_of index id) ledger
    ∙ (sym (sum_by-IsPermutation (λ (e : Entry). if is_of index id e then g e else 0) ledger (state_after choose history).catalog.ledger h)
    ∙ (sym (filter_sum g (is_of index id) (state_after choose history).catalog.ledger)
    ∙ (whole_after choose history).each index id g))

-- ---- causes

abbrev begin_by : Bool → Bool → ℕ → Option Refusal
begin_by begun known many = first (
    (begun, refusals.ChannelOpen)
    ∷ (not known, refusals.UnknownIndex)
    ∷ (nat_le most_channels many, refusals.TooManyChannels)
    ∷ [])

abbrev unless : Refusal → Bool → Option Refusal
unless r b = first ((not b, r) ∷ [])

pub cause_is : (choose : Chooser) (history : List TimedCommand) (held : StoreState) (command : Command) →
    SeesChannels (state_after choose history) held →
    SeesStorage (state_after choose history) (shelves_of held) held.view.ledger held.last held.tick →
    cause held command ≡ judged (state_after choose history) command
cause_is choose history held (Begin channel meta) h s =
    let m : State = state_after choose history in
    ap (λ (b : Bool). begin_by b (is_configured held meta.index) (length held.channels.items))
    (open_is m.channels held.channels.items channel h.channels)
    ∙ ap (λ (b : Bool). begin_by (is_begun m channel) b (length held.channels.items))
    (configured_is m.force held.config.limits meta.index h.set)
    ∙ ap (begin_by (is_begun m channel) (is_configured_or_default m meta.index)) (as_many m.channels held.channels.items h.channels)
cause_is choose history held (Block channel bytes spot) h s =
    ap (unless refusals.NoChannel) (open_is (state_after choose history).channels held.channels.items channel h.channels)
cause_is choose history held (End channel) h s =
    ap (unless refusals.NoChannel) (open_is (state_after choose history).channels held.channels.items channel h.channels)
cause_is choose history held Tick h s = refl
cause_is choose history held (Roll index) h s =
    let m : State = state_after choose history in
    ap (unless refusals.UnknownIndex) (ap is_some (seen_here m held index s)
    ∙ known_is m.force index (given.is_configured m.force index) (find index_name index m.catalog.indexes))
cause_is choose history held (Thaw index id) h s =
    let m : State = state_after choose history in
    ap (by_view held.view.ledger index id) (seen_here m held index s)
    ∙ thaw_is m.force held.view.ledger m.catalog.indexes index id (given.is_configured m.force index) (sound_after choose history)
    (same_here choose history held.view.ledger index id s.ledger_is)
cause_is choose history held (Configure config) h s = refl
cause_is choose history held (Direct events) h s =
    ap (unless refusals.UnknownIndex) (all_configured held (state_after choose history) events h.set)

-- ---- Ticks

pub needs_is : (choose : Chooser) (history : List TimedCommand) (held : StoreState) (order : TimedCommand) →
    SeesChannels (state_after choose history) held →
    SeesStorage (state_after choose history) (shelves_of held) held.view.ledger held.last held.tick →
    needs_tick held order ≡ machine.needs_tick (state_after choose history) order
needs_is choose history held order h s =
    let m : State = state_after choose history in
    ap (λ (l : ℤ). waits_for_tick order.command && is_past (effective l order.moment) held.tick held.config.limits.rotate_secs) s.last_is
    ∙ ap (λ (t : ℤ). waits_for_tick order.command && is_past (effective m.last order.moment) t held.config.limits.rotate_secs) s.tick_is
    ∙ ap (λ (n : ℕ). waits_for_tick order.command && is_past (effective m.last order.moment) m.tick n) h.set.limits.rotate_secs
