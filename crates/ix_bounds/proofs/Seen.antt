-- The bounds of a state are seen by what is in memory of it.
use Rattle.std.proofs.Common.{◌≡◌, ◌≤◌, ◌<◌, ℕ, ℤ, suc, ◌+◌, ◌^◌, List, [], ◌∷◌, length, sym, ap, ◌∙◌, subst, arith}
use Rattle.std.specs.Prelude.{Some, None, option_to_list}
use Rattle.std.specs.List.{AllByRecursion, sum_by}
use Rattle.std.proofs.lemmas.List.{length-map}
use Rattle.std.proofs.lemmas.List.Sums.{sum_by-append}
use Rattle.ix_base.specs.declared.events.ChannelMeta.{ChannelMeta}
use Rattle.ix_base.specs.declared.events.Event.{Event}
use Rattle.ix_items.specs.Spelling.{body_bytes}
use Rattle.ix_items.specs.declared.items.Bucket.{Bucket}
use Rattle.ix_items.specs.declared.items.Entry.{Entry}
use Rattle.ix_life.specs.declared.views.IndexView.{IndexView}
use Rattle.ix_model.specs.Bounds.{KeepsBounds, AreTimes, bytes_in, events_in, sized_items}
use Rattle.ix_model.specs.Buckets.{Standing, live, frozen, Slot, Index, listed, entered, buckets, ledger}
use Rattle.ix_model.specs.Given.{Chooser}
use Rattle.ix_model.specs.Step.{state_after}
use Rattle.ix_model.specs.Sums.{AreSums, IsStandingOf, AreSoundFrom, IsSound}
use Rattle.ix_model.specs.declared.commands.TimedCommand.{TimedCommand}
use Rattle.ix_model.proofs.Ascending.{in_order_after}
use Rattle.ix_model.proofs.Ledgers.{all_after}
use Rattle.ix_model.proofs.Stepping.{sound_after}
use Rattle.ix_catalog.specs.Measures.{all_bytes, all_events}
use Rattle.ix_catalog.specs.declared.index_table.IndexTable.{IndexTable}
use Rattle.ix_bounds.specs.Parts.{Parts, channel_of, IsPartsOf}
use Rattle.ix_bounds.specs.Within.{HasTimes, EntryHasTimes, AllHaveTimes, HasOffset, size, AreWithin, BoundsAreSeen}
use Rattle.ix_bounds.proofs.Added.{in_view, in_index, added}
use Rattle.ix_bounds.proofs.Filled.{filled_after}
use Rattle.ix_bounds.proofs.Sizes.{size_is}
use Rattle.ix_bounds.proofs.Sums.{each_most, none_in, none_each, all_from, all_two}
use Rattle.ix_bounds.proofs.Times.{bucket_over, entry_over, none_over, over_none, index_none, index_times}

-- ---- an index has at most as many buckets as there are events: each has one

some_events : (events : List Event) (count bytes : ℕ) (newest oldest : ℤ) → AreSums events count bytes newest oldest → 1 ≤ count
some_events events count bytes newest oldest h =
    let a = h.count_is in
    let b = ap (λ (l : List Event). length l) h.events_are in
    omega (arith, a, b)

abbrev standing_events : Standing → ℕ
standing_events standing = sum_by (λ (b : Bucket). b.count) (option_to_list (listed standing)) + sum_by (λ (e : Entry). e.count)
    (option_to_list (entered standing))

one_event : (index : List ℕ) (id : ℕ) (events : List Event) (standing : Standing) → IsStandingOf index id events standing →
    1 ≤ standing_events standing
one_event index id events (live b) h = let a = some_events events b.count b.bytes b.newest b.oldest h.is_of.sums in omega (arith, a)
one_event index id events (frozen e None) h = let a = some_events events e.count e.bytes e.newest e.oldest h.0.sums in omega (arith, a)
one_event index id events (frozen e (Some b)) h = let a = some_events events e.count e.bytes e.newest e.oldest h.0.sums in omega (arith, a)

abbrev slots_events : List Slot → ℕ
slots_events slots = sum_by (λ (b : Bucket). b.count) (buckets slots) + sum_by (λ (e : Entry). e.count) (ledger slots)

many_events : (index : List ℕ) (id : ℕ) (slots : List Slot) → AreSoundFrom index id slots → length slots ≤ slots_events slots
many_events index id [] h = omega arith
many_events index id (s ∷ slots) h =
    let a = sum_by-append (λ (b : Bucket). b.count) (option_to_list (listed s.standing)) (buckets slots) in
    let b = sum_by-append (λ (e : Entry). e.count) (option_to_list (entered s.standing)) (ledger slots) in
    let c = one_event index id s.events s.standing h.0 in
    let d = many_events index (suc id) slots h.1 in
    omega (arith, a, b, c, d)

numbers_within : (is : List Index) → AllByRecursion IsSound is → sum_by events_in is < 2 ^ 63 →
    AllByRecursion (λ (i : Index). length i.slots < 2 ^ 63) is
numbers_within is h k =
    all_two IsSound (λ i. events_in i ≤ sum_by events_in is) (λ i. length i.slots < 2 ^ 63)
    (λ i s e. (let a = many_events i.name 0 i.slots s in omega (arith, a, e, k))) is h
    (each_most events_in is (sum_by events_in is) (omega arith))

-- ---- times

views_times : (views : List IndexView) → sum_by (in_view bucket_over) views ≡ 0 → AllByRecursion AllHaveTimes views
views_times views h =
    all_from (λ (v : IndexView). in_view bucket_over v ≡ 0) AllHaveTimes
    (λ v k. all_from (λ (b : Bucket). bucket_over b ≡ 0) HasTimes (λ b z. over_none b.newest b.oldest z) v.buckets
    (none_each bucket_over v.buckets k))
    views (none_each (in_view bucket_over) views h)

views_none : (views : List IndexView) → AllByRecursion AllHaveTimes views → sum_by (in_view bucket_over) views ≡ 0
views_none views h =
    none_in (in_view bucket_over) views
    (all_from AllHaveTimes (λ (v : IndexView). in_view bucket_over v ≡ 0)
    (λ v k. none_in bucket_over v.buckets (all_from HasTimes (λ (b : Bucket). bucket_over b ≡ 0)
    (λ b z. none_over b.newest b.oldest z.0 z.1) v.buckets k))
    views h)

entries_times : (entries : List Entry) → sum_by entry_over entries ≡ 0 → AllByRecursion EntryHasTimes entries
entries_times entries h = all_from (λ (e : Entry). entry_over e ≡ 0) EntryHasTimes (λ e z. over_none e.newest e.oldest z) entries
    (none_each entry_over entries h)

entries_none : (entries : List Entry) → AllByRecursion EntryHasTimes entries → sum_by entry_over entries ≡ 0
entries_none entries h = none_in entry_over entries (all_from EntryHasTimes (λ (e : Entry). entry_over e ≡ 0)
    (λ e z. none_over e.newest e.oldest z.0 z.1) entries h)

indexes_times : (is : List Index) → AllByRecursion IsSound is → sum_by (in_index bucket_over entry_over) is ≡ 0 → AllByRecursion AreTimes is
indexes_times is h k =
    all_two IsSound (λ i. in_index bucket_over entry_over i ≡ 0) AreTimes index_times is h
    (none_each (in_index bucket_over entry_over) is k)

indexes_none : (is : List Index) → AllByRecursion IsSound is → AllByRecursion AreTimes is → sum_by (in_index bucket_over entry_over) is ≡ 0
indexes_none is h k =
    none_in (in_index bucket_over entry_over) is (all_two IsSound AreTimes (λ i. in_index bucket_over entry_over i ≡ 0) index_none is h k)

-- ---- the bounds

module _ (choose : Chooser) (history : List TimedCommand) (p : Parts) (h : IsPartsOf (state_after choose history) p) where
  times : sum_by (in_view bucket_over) p.shelves.indexes + sum_by entry_over p.ledger
      ≡ sum_by (in_index bucket_over entry_over) (state_after choose history).catalog.indexes
  times =
      ap (λ (s : IndexTable). sum_by (in_view bucket_over) s.indexes + sum_by entry_over p.ledger) h.shelves_are
      ∙ added bucket_over entry_over (state_after choose history).force (state_after choose history).catalog p.ledger
      (all_after choose history) h.ledger_is

  bytes : all_bytes p.ledger p.shelves ≡ sum_by bytes_in (state_after choose history).catalog.indexes
  bytes =
      ap (λ (s : IndexTable). all_bytes p.ledger s) h.shelves_are
      ∙ added (λ (b : Bucket). b.bytes) (λ (e : Entry). e.bytes) (state_after choose history).force (state_after choose history).catalog
      p.ledger (all_after choose history) h.ledger_is

  events : all_events p.ledger p.shelves ≡ sum_by events_in (state_after choose history).catalog.indexes
  events =
      ap (λ (s : IndexTable). all_events p.ledger s) h.shelves_are
      ∙ added (λ (b : Bucket). b.count) (λ (e : Entry). e.count) (state_after choose history).force (state_after choose history).catalog
      p.ledger (all_after choose history) h.ledger_is

  many : length p.channels ≡ length (state_after choose history).channels
  many = ap (λ (l : List (List ℕ × ChannelMeta)). length l) h.channels_are ∙ length-map (state_after choose history).channels channel_of

  sizes : size p ≡ length (body_bytes (sized_items (state_after choose history)))
  sizes = size_is (state_after choose history) p h (all_after choose history) (filled_after choose history)
      (in_order_after choose history).indexes

  settled : p.shelves.settled ≡ (state_after choose history).catalog.counts.settled
  settled = ap (λ (s : IndexTable). s.settled) h.shelves_are

  next_file : p.shelves.next_file ≡ (state_after choose history).catalog.next_file
  next_file = ap (λ (s : IndexTable). s.next_file) h.shelves_are

  keeps : AreWithin p → KeepsBounds (state_after choose history)
  keeps w =
      let total = (let a = views_none p.shelves.indexes w.times in let b = entries_none p.ledger w.frozen_times in
      let q : sum_by (in_index bucket_over entry_over) (state_after choose history).catalog.indexes ≡ 0 = omega (arith, a, b, times) in
      q) in
      let few : sum_by events_in (state_after choose history).catalog.indexes < 2 ^ 63 = (let a = w.events in omega (arith, a, events)) in
      record {
        times = indexes_times (state_after choose history).catalog.indexes (sound_after choose history) total;
        settled = (let a = w.settled in omega (arith, a, settled));
        next_file = (let a = w.next_file in omega (arith, a, next_file));
        next_ids = numbers_within (state_after choose history).catalog.indexes (sound_after choose history) few;
        offsets = subst (AllByRecursion HasOffset) h.spots_are w.offsets;
        bytes = (let a = w.bytes in omega (arith, a, bytes));
        events = few;
        channels = (let a = w.channels in omega (arith, a, many));
        items = (let a = w.items in omega (arith, a, sizes));
      }

  within : KeepsBounds (state_after choose history) → AreWithin p
  within k =
      let total = indexes_none (state_after choose history).catalog.indexes (sound_after choose history) k.times in
      record {
        times = views_times p.shelves.indexes (omega (arith, total, times));
        frozen_times = entries_times p.ledger (omega (arith, total, times));
        settled = (let a = k.settled in omega (arith, a, settled));
        next_file = (let a = k.next_file in omega (arith, a, next_file));
        offsets = subst (AllByRecursion HasOffset) (sym h.spots_are) k.offsets;
        bytes = (let a = k.bytes in omega (arith, a, bytes));
        events = (let a = k.events in omega (arith, a, events));
        channels = (let a = k.channels in omega (arith, a, many));
        items = (let a = k.items in omega (arith, a, sizes));
      }

pub bounds_are_seen : BoundsAreSeen
bounds_are_seen choose history p h = (keeps choose history p h, within choose history p h)
