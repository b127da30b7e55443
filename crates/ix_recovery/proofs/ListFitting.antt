-- A log that fits has a state within the bounds of what a store can keep.
use Rattle.std.proofs.Common.{◌≡◌, ◌<◌, ◌^◌, ℕ, suc, List, [], ◌∷◌, ◌++◌, map, length, refl, ap, arith, subst}
use Rattle.std.specs.Prelude.{Option, Some, None, option_to_list}
use Rattle.std.specs.List.{AllByRecursion, flat_map}
use Rattle.std.specs.Option.{option_map}
use Rattle.std.proofs.lemmas.List.Elements.{recursion_from_All}
use Rattle.ix_base.specs.declared.events.Event.{Event}
use Rattle.ix_base.specs.declared.events.Spot.{Spot}
use Rattle.ix_base.specs.declared.files.File.{File}
use Rattle.ix_manifest.specs.Book.{Name, NamedItems, named, name_of}
use Rattle.ix_items.specs.declared.items.Item.{Item}
use Rattle.ix_items.specs.declared.items.Item.TheVariants as items
use Rattle.ix_model.specs.Bounds.{HasTime, AreTimes, KeepsBounds}
use Rattle.ix_model.specs.Buckets.{Standing, live, frozen, Slot, Index, listed, entered}
use Rattle.ix_model.specs.Given.{Chooser}
use Rattle.ix_model.specs.State.{State}
use Rattle.ix_model.specs.Step.{state_after}
use Rattle.ix_model.specs.Sums.{IsStandingOf, AreSoundFrom, IsSound}
use Rattle.ix_model.specs.declared.commands.TimedCommand.{TimedCommand}
use Rattle.ix_model.proofs.Stepping.{sound_after}
use Rattle.ix_replay.specs.Amounts.{bytes_in, events_in, channels_in, size_in}
use Rattle.ix_replay.specs.Bounds.{IsWithin}
use Rattle.ix_replay.specs.Fits.{fits}
use Rattle.ix_replay.specs.Lists.{Lists}
use Rattle.ix_replay.proofs.OneList.{all_keep}
use Rattle.ix_model.specs.Books.{life_item, number_item}
use Rattle.ix_model.specs.Snap.{snapshot_of}
use Rattle.ix_store.specs.Written.{over}
use Rattle.ix_recovery.specs.ListLaws.{FitsWithin}
use Rattle.ix_recovery.specs.Listed.{slot_items, index_items, state_items, left_items, removal_item, all_items}
use Rattle.ix_recovery.proofs.Booked.{is_in}
use Rattle.ix_recovery.proofs.Listing.{states_are_listed}
use Rattle.ix_recovery.proofs.Members.{all_front, all_behind, all_mapped, all_flattened}
use Rattle.ix_recovery.proofs.Summing.{amounts_left, over_sum}
use Rattle.ix_recovery.proofs.Times.{times_bound}

-- ---- last removals

other_kind : (kind : ℕ) (text : List ℕ) (number : ℕ) → (kind ≡ 12 → ⊥) → named kind text number ≡ named 12 [] 0 → ⊥
other_kind kind text number d e = d (ap (λ (n : Name). n.kind) e)

-- under the name of last removals stand no other items
removals_only : (x : Item) → name_of x ≡ named 12 [] 0 → (list : List File) × (x ≡ items.Removals list)
removals_only (items.Settings kept) e = absurd (other_kind 1 [] 0 (λ q. omega (arith, q)) e)
removals_only (items.Run run) e = absurd (other_kind 2 [] 0 (λ q. omega (arith, q)) e)
removals_only (items.Moments last tick) e = absurd (other_kind 3 [] 0 (λ q. omega (arith, q)) e)
removals_only (items.Channel name meta carry) e = absurd (other_kind 4 name 0 (λ q. omega (arith, q)) e)
removals_only (items.Ended name) e = absurd (other_kind 4 name 0 (λ q. omega (arith, q)) e)
removals_only (items.Bucket index bucket) e = absurd (other_kind 6 index bucket.id (λ q. omega (arith, q)) e)
removals_only (items.Gone index id) e = absurd (other_kind 6 index id (λ q. omega (arith, q)) e)
removals_only (items.Ledger entry) e = absurd (other_kind 8 entry.index entry.id (λ q. omega (arith, q)) e)
removals_only (items.Counts settled nulled dropped placed) e = absurd (other_kind 9 [] 0 (λ q. omega (arith, q)) e)
removals_only (items.Spot spot) e = absurd (other_kind 10 spot.path 0 (λ q. omega (arith, q)) e)
removals_only (items.NextFile number) e = absurd (other_kind 11 [] 0 (λ q. omega (arith, q)) e)
removals_only (items.Removals list) e = (list, refl)
removals_only (items.NextId index id) e = absurd (other_kind 13 index 0 (λ q. omega (arith, q)) e)

pub removals_listed : (said : List Item) (run : ℕ) (removed : Option Item) (book : NamedItems) → Lists said (over run removed book) →
    (o : Option (List File)) × (removed ≡ removal_item o)
removals_listed said run None book lists = (None, refl)
removals_listed said run (Some x) book lists =
    let at = is_in said (over run (Some x) book) lists (named 12 [] 0) x refl in
    let only = removals_only x at.1 in
    (Some only.0, ap Some only.1)

pub as_removals : (run : ℕ) (removed : Option Item) (book : NamedItems) → fits (over run removed book) → (o : Option (List File))
    × (removed ≡ removal_item o)
as_removals run removed book fit = removals_listed fit.0 run removed book fit.1

-- ---- times

slot_times : (index : List ℕ) (a : ℕ) (events : List Event) (standing : Standing) → IsStandingOf index a events standing →
    AllByRecursion IsWithin (option_to_list (option_map (items.Bucket index) (listed standing))
    ++ option_to_list (option_map items.Ledger (entered standing))) → AllByRecursion HasTime events
slot_times index a events (live b) h w = times_bound events b.count b.bytes b.newest b.oldest h.is_of.sums w.0.newest w.0.oldest
slot_times index a events (frozen e None) h w = times_bound events e.count e.bytes e.newest e.oldest h.0.sums w.0.newest w.0.oldest
slot_times index a events (frozen e (Some b)) h w = times_bound events b.count b.bytes b.newest b.oldest h.1.is_of.sums w.0.newest
    w.0.oldest

slots_times : (index : List ℕ) (a : ℕ) (slots : List Slot) → AreSoundFrom index a slots →
    AllByRecursion (λ (s : Slot). AllByRecursion IsWithin (slot_items index s)) slots →
    AllByRecursion (λ (s : Slot). AllByRecursion HasTime s.events) slots
slots_times index a [] h w = tt
slots_times index a (s ∷ slots) h w = (slot_times index a s.events s.standing h.0 w.0, slots_times index (suc a) slots h.1 w.1)

indexes_times : (is : List Index) → AllByRecursion IsSound is → AllByRecursion (λ (i : Index). AllByRecursion IsWithin (index_items i)) is →
    AllByRecursion AreTimes is
indexes_times [] h w = tt
indexes_times (i ∷ is) h w = (
  slots_times i.name 0 i.slots h.0 (all_flattened IsWithin (slot_items i.name) i.slots w.0),
  indexes_times is h.1 w.1,
)

-- ---- what single items say

record SaysBounds (m : State) : Type 0 where
  times : AllByRecursion AreTimes m.catalog.indexes
  settled : m.catalog.counts.settled < 2 ^ 63
  next_file : m.catalog.next_file < 2 ^ 63
  next_ids : AllByRecursion (λ (i : Index). length i.slots < 2 ^ 63) m.catalog.indexes
  offsets : AllByRecursion (λ (s : Spot). s.offset < 2 ^ 63) m.spots

state_says : (m : State) → AllByRecursion IsSound m.catalog.indexes → AllByRecursion IsWithin (state_items m) → SaysBounds m
state_says m sound w =
    let lives = map life_item m.channels in
    let shelves = flat_map index_items m.catalog.indexes in
    let spots = map items.Spot m.spots in
    let numbers = map number_item m.catalog.indexes in
    let behind = all_behind IsWithin lives (shelves ++ (spots ++ numbers)) w.1.1.1.1 in
    let last = all_behind IsWithin shelves (spots ++ numbers) behind in
    record {
      times = indexes_times m.catalog.indexes sound (all_flattened IsWithin index_items m.catalog.indexes
          (all_front IsWithin shelves (spots ++ numbers) behind));
      settled = w.1.1.0.0;
      next_file = w.1.1.1.0;
      next_ids = all_mapped IsWithin number_item m.catalog.indexes (all_behind IsWithin spots numbers last);
      offsets = all_mapped IsWithin items.Spot m.spots (all_front IsWithin spots numbers last);
    }

left_says : (choose : Chooser) (history : List TimedCommand) → AllByRecursion IsWithin (left_items choose history) →
    SaysBounds (state_after choose history)
left_says choose [] w = record { times = tt; settled = omega arith; next_file = omega arith; next_ids = tt; offsets = tt }
left_says choose (o ∷ history) w = state_says (state_after choose (o ∷ history)) (sound_after choose (o ∷ history)) w

-- ---- all of it

bounds_from : (choose : Chooser) (history : List TimedCommand) (run : ℕ) (removed : Option (List File)) →
    fits (over run (removal_item removed) (snapshot_of choose history).book) → KeepsBounds (state_after choose history)
bounds_from choose history run removed fit =
    let said = left_items choose history in
    let all = all_items run removed said in
    let keeps = all_keep (over run (removal_item removed) (snapshot_of choose history).book) all fit
    (states_are_listed choose history run removed) in
    let within = recursion_from_All IsWithin all keeps.within in
    let says = left_says choose history (all_behind IsWithin (option_to_list (removal_item removed)) said within.1) in
    let amounts = amounts_left choose history in
    record {
      times = says.times;
      settled = says.settled;
      next_file = says.next_file;
      next_ids = says.next_ids;
      offsets = says.offsets;
      bytes = (let e = over_sum bytes_in run removed said refl (λ list. refl) in let a = amounts.bytes in let b = keeps.bytes in
          omega (arith, e, a, b));
      events = (let e = over_sum events_in run removed said refl (λ list. refl) in let a = amounts.events in let b = keeps.events in
          omega (arith, e, a, b));
      channels = (let e = over_sum channels_in run removed said refl (λ list. refl) in let a = amounts.channels in let b = keeps.channels in
          omega (arith, e, a, b));
      items = (let e = over_sum size_in run removed said refl (λ list. refl) in let a = amounts.size in let b = keeps.size in
          omega (arith, e, a, b));
    }

pub fits_within : FitsWithin
fits_within choose history run removed fit =
    let o = as_removals run removed (snapshot_of choose history).book fit in
    bounds_from choose history run o.0 (subst (λ (r : Option Item). fits (over run r (snapshot_of choose history).book)) o.1 fit)
