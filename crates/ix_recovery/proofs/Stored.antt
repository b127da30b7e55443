-- Each event that is dealt to an index has a record, and so has each that lies in a bucket.
use Rattle.std.proofs.Common.{◌≡◌, ℕ, ◌≤◌, ◌<◌, ◌^◌, suc, ℤ, pos, List, [], ◌∷◌, length, refl, sym, ap, subst, arith}
use Rattle.std.specs.Prelude.{Option, Some, None, ◌==◌, ◌≤ℤ◌, unsigned_abs, unwrap_or, bytes_eq}
use Rattle.std.specs.Int.{w64}
use Rattle.std.specs.Int.RustNames.{FitsSigned}
use Rattle.std.specs.List.{AllByRecursion}
use Rattle.std.proofs.lemmas.Int.{ints, fits_signed_from_abs}
use Rattle.ix_base.specs.Clocks.{latest}
use Rattle.ix_base.specs.declared.events.Event.{Event}
use Rattle.ix_base.specs.declared.events.Routed.{Routed}
use Rattle.ix_base.specs.declared.events.Routed.TheVariants.{To, Null}
use Rattle.ix_bucket.specs.Record.{fields, IsInRange}
use Rattle.ix_bucket.proofs.Sizes.{length_fields}
use Rattle.ix_parse.specs.Form.{IsMoment}
use Rattle.ix_coding.specs.Spelling.{IsShort}
use Rattle.ix_items.specs.declared.items.Kept.{Kept}
use Rattle.ix_state.specs.Configs.{IsChooser}
use Rattle.ix_state.specs.Taken.{AreGiven}
use Rattle.ix_recovery.proofs.Members.{all_append, all_flat, all_mapped, found_each}
use Rattle.ix_model.specs.Bounds.{HasTime, AreTimes}
use Rattle.ix_model.specs.Buckets.{Slot, Index}
use Rattle.ix_model.specs.Dealt.{stored_at, dealt_by, all_dealt, dealt_from, dealt, contents, part, picked}
use Rattle.ix_model.specs.Given.{Chooser, home}
use Rattle.ix_model.specs.State.{State, index_name, slots_in, fresh_index, empty}
use Rattle.ix_model.specs.Step.{outcomes, effective, step, state_after}
use Rattle.ix_model.specs.declared.commands.TimedCommand.{TimedCommand}
use Rattle.ix_model.proofs.Ascending.{in_order_after}
use Rattle.ix_model.proofs.Dealing.{split_after}
use Rattle.ix_model.proofs.Named.{by_test}
use Rattle.ix_parse.specs.Limits.{EventsAreSmall, ArrivalsAreMoments}
use Rattle.ix_catalog.specs.Buckets.{named}
use Rattle.ix_catalog.specs.Lists.{find}
use Rattle.ix_recovery.specs.Ranges.{EventsHaveRecords}
use Rattle.ix_recovery.proofs.Added.{IsFit, adds_fit}
use Rattle.ix_recovery.proofs.RangeBrief.{home_brief}
use Rattle.ix_recovery.proofs.RangeLives.{IsReached, first_reached, moment_of, next_reached}
use Rattle.ix_state.proofs.Loaded.{AreLoaded}

-- ---- what is dealt

-- all but the time of an event is in range
record IsSized (event : Event) : Type 0 where
  arrival : IsMoment event.arrival
  size : IsShort (fields event)

sized : (name : List ℕ) (event : Event) → IsFit (To event) → length name ≤ 1024 → IsSized (named name event)
sized name event fit brief = record {
  arrival = fit.1;
  size = (let small = fit.0 in
      let all = length_fields (named name event) in
      omega (arith, small, all, brief));
}

stored_sized : (name : List ℕ) (event : Event) (o : Option (List ℕ)) → IsFit (To event) →
    ((index : List ℕ) → o ≡ Some index → length index ≤ 1024) →
    AllByRecursion IsSized (stored_at name event o)
stored_sized name event None fit brief = tt
stored_sized name event (Some index) fit brief =
    by_test (bytes_eq index name)
    (λ t. rw t (sized index event fit (brief index refl), tt))
    (λ t. rw t tt)

dealt_sized : (force : List Kept) (name : List ℕ) (r : Routed) → AreLoaded force → IsFit r → AllByRecursion IsSized (dealt_by force name r)
dealt_sized force name (To event) l fit = stored_sized name event (home force event.index) fit
    (λ index e. home_brief force l event.index index e)
dealt_sized force name Null l fit = tt

each_sized : (force : List Kept) (name : List ℕ) (rs : List Routed) → AreLoaded force → AllByRecursion IsFit rs →
    AllByRecursion (λ (r : Routed). AllByRecursion IsSized (dealt_by force name r)) rs
each_sized force name [] l h = tt
each_sized force name (r ∷ rs) l h = (dealt_sized force name r l h.0, each_sized force name rs l h.1)

-- ---- what lies in buckets

all_picked : (k : ℕ) (places : List ℕ) (events : List Event) → AllByRecursion IsSized events →
    AllByRecursion IsSized (picked k places events)
all_picked k [] events h = tt
all_picked k (place ∷ places) [] h = tt
all_picked k (place ∷ places) (e ∷ events) h =
    by_test (place == k)
    (λ t. rw t (h.0, all_picked k places events h.1))
    (λ t. rw t (all_picked k places events h.1))

all_parts : (parts : List (List Event)) → ((k : ℕ) → AllByRecursion IsSized (part k parts)) →
    AllByRecursion (λ (es : List Event). AllByRecursion IsSized es) parts
all_parts [] h = tt
all_parts (p ∷ parts) h = (h 0, all_parts parts (λ k. h (suc k)))

-- ---- ranges

arrival_fits : (z : ℤ) → IsMoment z → FitsSigned w64 z
arrival_fits z h = fits_signed_from_abs w64 z (below z h.0 h.1)
  where
    below : (x : ℤ) → pos 0 ≤ℤ x → x ≤ℤ latest → unsigned_abs x < 2 ^ 63
    below x low high = grind (arith, ints, low, high)

time_fits : (z : ℤ) → unsigned_abs z ≤ 2 ^ 62 → FitsSigned w64 z
time_fits z h = fits_signed_from_abs w64 z (omega (arith, h))

in_range : (event : Event) → IsSized event → HasTime event → IsInRange event
in_range event s t = record {
  time = time_fits event.time t;
  arrival = arrival_fits event.arrival s.arrival;
  size = s.size;
}

events_in_range : (events : List Event) → AllByRecursion IsSized events → AllByRecursion HasTime events → AllByRecursion IsInRange events
events_in_range [] s t = tt
events_in_range (e ∷ events) s t = (in_range e s.0 t.0, events_in_range events s.1 t.1)

slots_in_range : (slots : List Slot) → AllByRecursion (λ (s : Slot). AllByRecursion IsSized s.events) slots →
    AllByRecursion (λ (s : Slot). AllByRecursion HasTime s.events) slots →
    AllByRecursion (λ (s : Slot). AllByRecursion IsInRange s.events) slots
slots_in_range [] s t = tt
slots_in_range (x ∷ slots) s t = (events_in_range x.events s.0 t.0, slots_in_range slots s.1 t.1)

-- ---- all histories

module _ (small : EventsAreSmall) (arrivals : ArrivalsAreMoments) (choose : Chooser) (chooser : IsChooser choose) where
  all_sized : (m : State) (history : List TimedCommand) (name : List ℕ) → IsReached m → AreGiven history →
      AllByRecursion IsSized (dealt_from choose m history name)
  all_sized m [] name h g = tt
  all_sized m (o ∷ history) name h g =
      let moment : ℤ = effective m.last o.moment in
      let added : List Routed = outcomes choose m o.command moment in
      let fit : AllByRecursion IsFit added = adds_fit small arrivals choose m o.command moment chooser h (moment_of m o h) g.0 in
      all_append IsSized (all_dealt m.force name added) (dealt_from choose (step choose m o) history name)
      (all_flat IsSized (dealt_by m.force name) added (each_sized m.force name added h.loaded fit))
      (all_sized (step choose m o) history name (next_reached choose m o chooser h g.0) g.1)

  slots_sized : (history : List TimedCommand) (name : List ℕ) → AreGiven history →
      AllByRecursion (λ (s : Slot). AllByRecursion IsSized s.events) (slots_in (state_after choose history).catalog.indexes name)
  slots_sized history name g =
      let slots : List Slot = slots_in (state_after choose history).catalog.indexes name in
      let split = split_after choose history name in
      let whole = all_sized empty history name first_reached g in
      all_mapped (λ (es : List Event). AllByRecursion IsSized es) (λ (s : Slot). s.events) slots
      (all_parts (contents slots) (λ k. subst (λ (es : List Event). AllByRecursion IsSized es) (sym (split.each k))
      (all_picked k split.places (dealt choose history name) whole)))

  own_slots : (indexes : List Index) (i : Index) → find index_name i.name indexes ≡ Some i → slots_in indexes i.name ≡ i.slots
  own_slots indexes i e = ap (λ (o : Option Index). (unwrap_or o (fresh_index i.name)).slots) e

  indexes_in_range : (history : List TimedCommand) (is : List Index) → AreGiven history →
      AllByRecursion (λ (i : Index). find index_name i.name (state_after choose history).catalog.indexes ≡ Some i) is →
      AllByRecursion AreTimes is →
      AllByRecursion (λ (i : Index). AllByRecursion (λ (s : Slot). AllByRecursion IsInRange s.events) i.slots) is
  indexes_in_range history [] g f t = tt
  indexes_in_range history (i ∷ is) g f t =
      let own = own_slots (state_after choose history).catalog.indexes i f.0 in (
        slots_in_range i.slots (subst (λ (slots : List Slot). AllByRecursion (λ (s : Slot). AllByRecursion IsSized s.events) slots) own
            (slots_sized history i.name g)) t.0,
        indexes_in_range history is g f.1 t.1,
      )

pub have_records : EventsAreSmall → ArrivalsAreMoments → EventsHaveRecords
have_records small arrivals choose history chooser given times =
    let indexes : List Index = (state_after choose history).catalog.indexes in
    indexes_in_range small arrivals choose chooser history indexes given
    (found_each index_name indexes (in_order_after choose history).indexes) times
