-- The items of a state within the bounds can be written.
use Rattle.std.proofs.Common.{◌≡◌, ◌≢◌, ◌≤◌, ℕ, Bool, true, false, List, [], ◌∷◌, ◌++◌, map, length, refl, sym, ap, ◌∙◌, subst, arith}
use Rattle.std.specs.Prelude.{Option, Some}
use Rattle.std.specs.List.{AllByRecursion, flat_map, sum_by}
use Rattle.std.specs.List.Sorted.{IsPermutation}
use Rattle.std.proofs.lemmas.List.{map-append}
use Rattle.std.proofs.lemmas.List.Elements.{All-from_recursion, recursion_from_All}
use Rattle.std.proofs.lemmas.List.Sorted.{All-permutation, IsPermutation-map, length_permutation, sum_by-IsPermutation}
use Rattle.std.proofs.lemmas.List.Sums.{sum_by-cons, sum_by-append}
use Rattle.ix_base.specs.declared.events.Spot.{Spot}
use Rattle.ix_items.specs.Spelling.{HasSpelling, IsWritable, IsInRange}
use Rattle.ix_items.specs.declared.items.Bucket.{Bucket}
use Rattle.ix_items.specs.declared.items.Entry.{Entry}
use Rattle.ix_items.specs.declared.items.Item.{Item}
use Rattle.ix_items.specs.declared.items.Item.TheVariants as items
use Rattle.ix_items.specs.declared.items.Kept.{Kept}
use Rattle.ix_state.specs.Configs.{AreByFile}
use Rattle.ix_recovery.specs.ListLaws.{carried_in, CarriesFew}
use Rattle.ix_recovery.specs.Listed.{single_items, life_items, left_items}
use Rattle.ix_recovery.proofs.Members.{all_append, all_front, all_behind}
use Rattle.ix_recovery.proofs.Summing.{amounts_left}
use Rattle.ix_model.specs.Bounds.{bucket_items, entry_items, next_item, channel_item, sized_items}
use Rattle.ix_model.specs.Buckets.{Index, buckets, ledger as frozen_in}
use Rattle.ix_model.specs.Given.{Chooser}
use Rattle.ix_model.specs.Ledger.{all_frozen}
use Rattle.ix_model.specs.State.{State, ChannelHistory}
use Rattle.ix_model.specs.Step.{state_after}
use Rattle.ix_model.specs.declared.commands.TimedCommand.{TimedCommand}
use Rattle.ix_model.proofs.Renewing.{apart_after}
use Rattle.ix_replay.specs.Amounts.{archive_file, is_numbered, uses}
use Rattle.ix_model.specs.Books.{life_item, number_item}
use Rattle.ix_state.specs.Held.{Holds}
use Rattle.ix_state.specs.declared.state.StoreState.{StoreState}
use Rattle.ix_recovery.specs.Whole.{kept_items, held_items}
use Rattle.ix_recovery.proofs.Brief.{IsBrief, HasFile, all_brief, settings_written, bucket_written, number_written, entry_written}
use Rattle.ix_recovery.proofs.Brief.{spot_written, channel_written}
use Rattle.ix_recovery.proofs.Held.{entries_moved, held_moved}

-- ---- the files of settings

pub by_file : (file : ℕ) (force : List Kept) → 1 ≤ file → AreByFile file force → AllByRecursion HasFile force
by_file file [] l h = tt
by_file file (k ∷ force) l h =
    let from : 1 ≤ k.file = (let a = h.0.0 in omega (arith, a, l)) in
    ((from, h.0.1), by_file k.file force from h.1)

-- ---- archives

some_used : (archive : Option ℕ) → archive ≡ Some 0 → is_numbered 0 (archive_file archive) ≡ 1
some_used archive e = ap (λ (a : Option ℕ). is_numbered 0 (archive_file a)) e

-- entries of which no archive has the number 0
none_zero : (list : List Entry) → sum_by (uses 0) (map items.Ledger list) ≤ 0 → AllByRecursion (λ (e : Entry). e.archive ≢ Some 0) list
none_zero [] h = tt
none_zero (e ∷ list) h =
    let a = sum_by-cons (uses 0) (items.Ledger e) (map items.Ledger list) in (
      (λ z. (let b : uses 0 (items.Ledger e) ≡ 1 = some_used e.archive z in absurd (omega (arith, a, b, h)))),
      none_zero list (omega (arith, a, h)),
    )

-- ---- parts of a state

lives_written : (lives : List ChannelHistory) → AllByRecursion IsBrief (map channel_item lives) →
    AllByRecursion (λ (l : ChannelHistory). carried_in (life_item l) ≤ 8388608) lives →
    AllByRecursion IsWritable (map life_item lives)
lives_written [] h few = tt
lives_written (l ∷ lives) h few =
    let a = channel_written l.name l.meta h.0 in
    let b = few.0 in
    ((a.0, a.1, omega (arith, b)), lives_written lives h.1 few.1)

entries_written : (list : List Entry) → AllByRecursion IsBrief (map items.Ledger list) →
    AllByRecursion (λ (e : Entry). e.archive ≢ Some 0) list →
    AllByRecursion IsWritable (map items.Ledger list)
entries_written [] h none = tt
entries_written (e ∷ list) h none = ((entry_written e h.0, none.0), entries_written list h.1 none.1)

view_written : (name : List ℕ) (bs : List Bucket) → AllByRecursion IsBrief (map (items.Bucket name) bs) →
    AllByRecursion IsWritable (map (items.Bucket name) bs)
view_written name [] h = tt
view_written name (b ∷ bs) h = (bucket_written name b h.0, view_written name bs h.1)

buckets_written : (is : List Index) → AllByRecursion IsBrief (flat_map bucket_items is) →
    AllByRecursion IsWritable (flat_map bucket_items is)
buckets_written [] h = tt
buckets_written (i ∷ is) h =
    all_append IsWritable (bucket_items i) (flat_map bucket_items is)
    (view_written i.name (buckets i.slots) (all_front IsBrief (bucket_items i) (flat_map bucket_items is) h))
    (buckets_written is (all_behind IsBrief (bucket_items i) (flat_map bucket_items is) h))

numbers_written : (is : List Index) → AllByRecursion IsBrief (map next_item is) → AllByRecursion IsWritable (map number_item is)
numbers_written [] h = tt
numbers_written (i ∷ is) h = (number_written i.name _ h.0, numbers_written is h.1)

spots_written : (spots : List Spot) → AllByRecursion IsBrief (map items.Spot spots) → AllByRecursion IsWritable (map items.Spot spots)
spots_written [] h = tt
spots_written (s ∷ spots) h = (spot_written s h.0, spots_written spots h.1)

-- the entries of the ledger, index by index
entries_are : (is : List Index) → flat_map entry_items is ≡ map items.Ledger (all_frozen is)
entries_are [] = refl
entries_are (i ∷ is) = ap (λ (l : List Item). entry_items i ++ l) (entries_are is)
    ∙ sym (map-append items.Ledger (frozen_in i.slots) (all_frozen is))

-- none of them has an archive of the number 0
no_zero : (choose : Chooser) (history : List TimedCommand) (ledger : List Entry) →
    IsPermutation ledger (state_after choose history).catalog.ledger →
    AllByRecursion (λ (e : Entry). e.archive ≢ Some 0) ledger
no_zero choose [] ledger moved = by ledger (length_permutation ledger [] moved)
  where
    by : (list : List Entry) → 0 ≡ length list → AllByRecursion (λ (e : Entry). e.archive ≢ Some 0) list
    by [] l = tt
    by (e ∷ list) l = absurd (omega (arith, l))
no_zero choose (o ∷ history) ledger moved =
    let m : State = state_after choose (o ∷ history) in
    let numbers = map items.Spot m.spots ++ map number_item m.catalog.indexes in
    let entries = map items.Ledger ledger ++ numbers in
    let shelves = flat_map bucket_items m.catalog.indexes ++ entries in
    let a = sum_by-IsPermutation (uses 0) (left_items choose (o ∷ history)) (kept_items m ledger)
    (held_moved choose (o ∷ history) ledger moved) in
    let b = (amounts_left choose (o ∷ history)).numbers 0 in
    let c = (apart_after choose (o ∷ history)).from_one in
    let d = sum_by-append (uses 0) (single_items m) (life_items m ++ shelves) in
    let e = sum_by-append (uses 0) (life_items m) shelves in
    let f = sum_by-append (uses 0) (flat_map bucket_items m.catalog.indexes) entries in
    let g = sum_by-append (uses 0) (map items.Ledger ledger) numbers in
    none_zero ledger (omega (arith, a, b, c, d, e, f, g))

-- ---- all of it

module _ (choose : Chooser) (history : List TimedCommand) (held : StoreState) (h : Holds choose history held)
    (few : CarriesFew (state_after choose history)) where
  abbrev m : State
  m = state_after choose history

  abbrev is : List Index
  is = m.catalog.indexes

  abbrev ledger : List Entry
  ledger = held.view.ledger

  abbrev front : List Item
  front = items.Settings m.force ∷ flat_map bucket_items is

  abbrev entries : List Item
  entries = flat_map entry_items is

  abbrev spots : List Item
  spots = map items.Spot m.spots

  abbrev numbers : List Item
  numbers = map next_item is

  abbrev channels : List Item
  channels = map channel_item m.channels

  brief : AllByRecursion IsBrief (sized_items m)
  brief = all_brief (sized_items m) h.bounds.items

  brief_4 : AllByRecursion IsBrief (front ++ entries ++ spots ++ numbers)
  brief_4 = all_front IsBrief (front ++ entries ++ spots ++ numbers) channels brief

  brief_3 : AllByRecursion IsBrief (front ++ entries ++ spots)
  brief_3 = all_front IsBrief (front ++ entries ++ spots) numbers brief_4

  brief_2 : AllByRecursion IsBrief (front ++ entries)
  brief_2 = all_front IsBrief (front ++ entries) spots brief_3

  brief_1 : AllByRecursion IsBrief front
  brief_1 = all_front IsBrief front entries brief_2

  settings : IsWritable (items.Settings m.force)
  settings =
      settings_written m.force brief_1.0
      (subst (AllByRecursion HasFile) h.channels.kept (by_file 1 held.config.kept (omega arith) h.channels.config.order.files))

  lives : AllByRecursion IsWritable (life_items m)
  lives = lives_written m.channels (all_behind IsBrief (front ++ entries ++ spots ++ numbers) channels brief) few

  brief_entries : AllByRecursion IsBrief (map items.Ledger ledger)
  brief_entries =
      recursion_from_All IsBrief (map items.Ledger ledger)
      (All-permutation IsBrief (map items.Ledger (all_frozen is)) (map items.Ledger ledger)
      (IsPermutation-map items.Ledger (all_frozen is) ledger (entries_moved choose history ledger h.storage.ledger_is))
      (All-from_recursion IsBrief (map items.Ledger (all_frozen is))
      (subst (AllByRecursion IsBrief) (entries_are is) (all_behind IsBrief front entries brief_2))))

  written : AllByRecursion IsWritable (kept_items m ledger)
  written =
      all_append IsWritable (single_items m) _ (settings, (tt, (tt, (tt, tt))))
      (all_append IsWritable (life_items m) _ lives
      (all_append IsWritable (flat_map bucket_items is) _ (buckets_written is brief_1.1)
      (all_append IsWritable (map items.Ledger ledger) _
      (entries_written ledger brief_entries (no_zero choose history ledger h.storage.ledger_is))
      (all_append IsWritable (map items.Spot m.spots) (map number_item is)
      (spots_written m.spots (all_behind IsBrief (front ++ entries) spots brief_3))
      (numbers_written is (all_behind IsBrief (front ++ entries ++ spots) numbers brief_4))))))

  pub held_written : (fresh : Bool) → AllByRecursion IsWritable (held_items fresh m ledger)
  held_written true = (settings, tt)
  held_written false = written

-- what can be written and is in range has a spelling
pub spelled : (list : List Item) → AllByRecursion IsWritable list → AllByRecursion IsInRange list → AllByRecursion HasSpelling list
spelled [] w r = tt
spelled (x ∷ xs) w r = (record { writable = w.0; in_range = r.0 }, spelled xs w.1 r.1)
