-- A turn of housekeeping keeps the bounds of what a store can keep.
use Rattle.std.proofs.Common.{◌≡◌, ◌≤◌, ◌<◌, ◌^◌, ℕ, suc, ◌+◌, ℤ, Bool, true, false, List, [], ◌∷◌, ◌++◌, length, map, refl, sym, ap, ap₂}
use Rattle.std.proofs.Common.{◌∙◌, arith, subst, length-append}
use Rattle.std.specs.Prelude.{Option, Some, None, if◌then◌else◌}
use Rattle.std.specs.List.{AllByRecursion, flat_map, sum_by}
use Rattle.std.proofs.lemmas.List.Sums.{sum_by-cons}
use Rattle.ix_base.specs.declared.events.Event.{Event}
use Rattle.ix_items.specs.Spelling.{item_bytes, body_bytes}
use Rattle.ix_items.specs.declared.items.Bucket.{Bucket}
use Rattle.ix_items.specs.declared.items.Entry.{Entry}
use Rattle.ix_items.specs.declared.items.Item.{Item}
use Rattle.ix_items.specs.declared.items.Item.TheVariants as items
use Rattle.ix_items.specs.declared.items.Kept.{Kept}
use Rattle.ix_items.specs.declared.items.Rule.{Rule}
use Rattle.ix_model.specs.Bounds.{KeepsBounds, HasTime, AreTimes, bytes_in, events_in, bucket_items, entry_items, next_item, channel_item}
use Rattle.ix_model.specs.Bounds.{sized_items}
use Rattle.ix_model.specs.Buckets.{Standing, live, frozen, Slot, Index, buckets, ledger}
use Rattle.ix_model.specs.Keeping.{turned, file_behind}
use Rattle.ix_model.specs.Keeping as kept
use Rattle.ix_model.specs.State.{State}
use Rattle.ix_model.specs.Step.{turn_in, turned_index, files_taken, all_turned}
use Rattle.ix_model.proofs.Named.{by_test}
use Rattle.ix_catalog.specs.Buckets.{Turn, is_among, rule_of, entry_of, staying}
use Rattle.ix_catalog.proofs.Sizes.{bucket_size, entry_size, size_behind, entries_size}
use Rattle.ix_bounds.proofs.TickSums.{Counts, bucket_sum, entry_sum, all_least}

-- ---- what is counted

abbrev bytes_of : List ℕ → Bucket → ℕ
bytes_of name b = b.bytes

abbrev count_of : List ℕ → Bucket → ℕ
count_of name b = b.count

abbrev size_of : List ℕ → Bucket → ℕ
size_of name b = length (item_bytes (items.Bucket name b))

abbrev entry_bytes : Entry → ℕ
entry_bytes e = e.bytes

abbrev entry_count : Entry → ℕ
entry_count e = e.count

abbrev entry_length : Entry → ℕ
entry_length e = length (item_bytes (items.Ledger e))

kept_bytes : (t : Turn) (file : ℕ) (b : Bucket) → (staying t file b).bytes ≡ b.bytes
kept_bytes t file b = by_test (is_among t.moves.cooled b.id) (λ u. rw u refl)
    (λ u. by_test (is_among t.moves.warmed b.id) (λ v. rw (u, v) refl) (λ v. rw (u, v) refl))

kept_count : (t : Turn) (file : ℕ) (b : Bucket) → (staying t file b).count ≡ b.count
kept_count t file b = by_test (is_among t.moves.cooled b.id) (λ u. rw u refl)
    (λ u. by_test (is_among t.moves.warmed b.id) (λ v. rw (u, v) refl) (λ v. rw (u, v) refl))

bytes_count : (name : List ℕ) → Counts name (bytes_of name) entry_bytes
bytes_count name = record {
  stays = λ t file b. kept_bytes t file b;
  freezes = λ t file rule b e. omega arith;
}

counts_count : (name : List ℕ) → Counts name (count_of name) entry_count
counts_count name = record {
  stays = λ t file b. kept_count t file b;
  freezes = λ t file rule b e. omega arith;
}

sizes_count : (name : List ℕ) → Counts name (size_of name) entry_length
sizes_count name = record {
  stays = λ t file b. bucket_size name (staying t file b) ∙ sym (bucket_size name b);
  freezes = λ t file rule b e.
      (let a = bucket_size name b in
      let c = entry_size (entry_of t file rule b) in
      let d : length t.index ≡ length name = ap length e in
      omega (arith, a, c, d));
}

-- ---- two sums of indexes

summed : (f g : Index → ℕ) (is : List Index) → sum_by (λ (i : Index). f i + g i) is ≡ sum_by f is + sum_by g is
summed f g [] = refl
summed f g (i ∷ is) =
    let a = sum_by-cons (λ (x : Index). f x + g x) i is in
    let b = sum_by-cons f i is in
    let c = sum_by-cons g i is in
    let d = summed f g is in
    omega (arith, a, b, c, d)

-- ---- sizes

size_first : (x : Item) (xs : List Item) → length (body_bytes (x ∷ xs)) ≡ length (item_bytes x) + length (body_bytes xs)
size_first x xs = length-append (item_bytes x) (body_bytes xs)

named_size : (name : List ℕ) (bs : List Bucket) → length (body_bytes (map (items.Bucket name) bs)) ≡ sum_by (size_of name) bs
named_size name [] = refl
named_size name (b ∷ bs) =
    size_first (items.Bucket name b) (map (items.Bucket name) bs)
    ∙ (ap (λ (n : ℕ). size_of name b + n) (named_size name bs) ∙ sym (sum_by-cons (size_of name) b bs))

buckets_are : (is : List Index) → length (body_bytes (flat_map bucket_items is)) ≡ sum_by (bucket_sum size_of) is
buckets_are [] = refl
buckets_are (i ∷ is) =
    let a = size_behind (bucket_items i) (flat_map bucket_items is) in
    let b = named_size i.name (buckets i.slots) in
    let c = sum_by-cons (bucket_sum size_of) i is in
    let d = buckets_are is in
    omega (arith, a, b, c, d)

entries_are : (is : List Index) → length (body_bytes (flat_map entry_items is)) ≡ sum_by (entry_sum entry_length) is
entries_are [] = refl
entries_are (i ∷ is) =
    let a = size_behind (entry_items i) (flat_map entry_items is) in
    let b = entries_size (ledger i.slots) in
    let c = sum_by-cons (entry_sum entry_length) i is in
    let d = entries_are is in
    omega (arith, a, b, c, d)

-- settings, indexes, and what else there is
abbrev items_of : List Kept → List Index → List Item → List Item → List Item → List Item
items_of force is spots nexts channels =
    items.Settings force ∷ flat_map bucket_items is ++ flat_map entry_items is ++ spots ++ nexts ++ channels

items_size : (force : List Kept) (is : List Index) (spots nexts channels : List Item) →
    length (body_bytes (items_of force is spots nexts channels))
    ≡ length (item_bytes (items.Settings force)) + ((sum_by (bucket_sum size_of) is + sum_by (entry_sum entry_length) is)
    + ((length (body_bytes spots) + length (body_bytes nexts)) + length (body_bytes channels)))
items_size force is spots nexts channels =
    let b : List Item = flat_map bucket_items is in
    let e : List Item = flat_map entry_items is in
    let h = size_first (items.Settings force) ((((b ++ e) ++ spots) ++ nexts) ++ channels) in
    let i = size_behind (((b ++ e) ++ spots) ++ nexts) channels in
    let j = size_behind ((b ++ e) ++ spots) nexts in
    let k = size_behind (b ++ e) spots in
    let l = size_behind b e in
    let m = buckets_are is in
    let n = entries_are is in
    omega (arith, h, i, j, k, l, m, n)

-- ---- what stays the same

many : (t : Turn) (file : ℕ) (slots : List Slot) → length (kept.all_turned t file slots) ≡ length slots
many t file [] = refl
many t file (s ∷ slots) = ap (λ (n : ℕ). suc n) (many t (file_behind t file s.standing) slots)

nexts_same : (force : List Kept) (moment : ℤ) (file : ℕ) (is : List Index) →
    map next_item (all_turned force moment file is) ≡ map next_item is
nexts_same force moment file [] = refl
nexts_same force moment file (i ∷ is) =
    ap₂ (λ (n : ℕ) (l : List Item). items.NextId i.name n ∷ l) (many (turn_in force moment i) file i.slots)
    (nexts_same force moment (file + files_taken force moment i) is)

slot_times : (t : Turn) (file : ℕ) (slots : List Slot) → AllByRecursion (λ (s : Slot). AllByRecursion HasTime s.events) slots →
    AllByRecursion (λ (s : Slot). AllByRecursion HasTime s.events) (kept.all_turned t file slots)
slot_times t file [] h = tt
slot_times t file (s ∷ slots) h = (h.0, slot_times t (file_behind t file s.standing) slots h.1)

times_keep : (force : List Kept) (moment : ℤ) (file : ℕ) (is : List Index) → AllByRecursion AreTimes is →
    AllByRecursion AreTimes (all_turned force moment file is)
times_keep force moment file [] h = tt
times_keep force moment file (i ∷ is) h =
    (slot_times (turn_in force moment i) file i.slots h.0, times_keep force moment (file + files_taken force moment i) is h.1)

abbrev HasId : Index → Type 0
HasId i = length i.slots < 2 ^ 63

ids_keep : (force : List Kept) (moment : ℤ) (file : ℕ) (is : List Index) → AllByRecursion HasId is →
    AllByRecursion HasId (all_turned force moment file is)
ids_keep force moment file [] h = tt
ids_keep force moment file (i ∷ is) h = (
  subst (λ (n : ℕ). n < 2 ^ 63) (sym (many (turn_in force moment i) file i.slots)) h.0,
  ids_keep force moment (file + files_taken force moment i) is h.1,
)

-- ---- all of it

module _ (m : State) (moment : ℤ) (h : KeepsBounds m) where
  abbrev is : List Index
  is = all_turned m.force moment m.catalog.next_file m.catalog.indexes

  pub times : AllByRecursion AreTimes is
  times = times_keep m.force moment m.catalog.next_file m.catalog.indexes h.times

  pub ids : AllByRecursion HasId is
  ids = ids_keep m.force moment m.catalog.next_file m.catalog.indexes h.next_ids

  pub bytes : sum_by bytes_in is < 2 ^ 63
  bytes =
      let a = all_least bytes_of entry_bytes bytes_count m.force moment m.catalog.next_file m.catalog.indexes in
      let b = summed (bucket_sum bytes_of) (entry_sum entry_bytes) is in
      let c = summed (bucket_sum bytes_of) (entry_sum entry_bytes) m.catalog.indexes in
      let d = h.bytes in
      omega (arith, a, b, c, d)

  pub events : sum_by events_in is < 2 ^ 63
  events =
      let a = all_least count_of entry_count counts_count m.force moment m.catalog.next_file m.catalog.indexes in
      let b = summed (bucket_sum count_of) (entry_sum entry_count) is in
      let c = summed (bucket_sum count_of) (entry_sum entry_count) m.catalog.indexes in
      let d = h.events in
      omega (arith, a, b, c, d)

  pub size : length (body_bytes (items_of m.force is (map items.Spot m.spots) (map next_item is) (map channel_item m.channels))) < 2 ^ 29
  size =
      let spots = map items.Spot m.spots in
      let channels = map channel_item m.channels in
      let old = map next_item m.catalog.indexes in
      let a = all_least size_of entry_length sizes_count m.force moment m.catalog.next_file m.catalog.indexes in
      let b = items_size m.force is spots (map next_item is) channels in
      let c = items_size m.force m.catalog.indexes spots old channels in
      let d = ap (λ (l : List Item). length (body_bytes l)) (nexts_same m.force moment m.catalog.next_file m.catalog.indexes) in
      let e = h.items in
      omega (arith, a, b, c, d, e)
