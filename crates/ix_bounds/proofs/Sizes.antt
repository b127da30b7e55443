-- The items of a state have as many bytes as what is in memory of it says.
use Rattle.std.proofs.Common.{◌≡◌, ◌≤◌, ℕ, ◌+◌, Bool, true, false, List, [], ◌∷◌, ◌++◌, length, map, refl, ap, ◌∙◌, arith}
use Rattle.std.specs.Prelude.{if◌then◌else◌, fold}
use Rattle.std.specs.List.{AllByRecursion, sum_by, flat_map}
use Rattle.std.specs.List.Sorted.{IsPermutation}
use Rattle.std.proofs.lemmas.List.Concat.{length-flat_map}
use Rattle.std.proofs.lemmas.List.Sums.{sum_by-cons, sum_by-append}
use Rattle.ix_items.specs.Spelling.{item_bytes, body_bytes}
use Rattle.ix_items.specs.declared.items.Entry.{Entry}
use Rattle.ix_items.specs.declared.items.Item.{Item}
use Rattle.ix_items.specs.declared.items.Item.TheVariants as items
use Rattle.ix_items.specs.declared.items.Kept.{Kept}
use Rattle.ix_life.specs.declared.views.IndexView.{IndexView}
use Rattle.ix_model.specs.Bounds.{bucket_items, entry_items, next_item, channel_item, sized_items}
use Rattle.ix_model.specs.Buckets.{Slot, Index, buckets, ledger}
use Rattle.ix_model.specs.Shown.{configured, with_fresh, index_view}
use Rattle.ix_model.specs.State.{State, Catalog, ChannelHistory, index_name}
use Rattle.ix_model.proofs.Ledgers.{HasAll}
use Rattle.ix_catalog.specs.Lists.{AreAscending}
use Rattle.ix_catalog.specs.Measures.{index_items, shelf_items, shelf_size}
use Rattle.ix_catalog.specs.Shelves.{next_number}
use Rattle.ix_catalog.proofs.Sizes.{next_size}
use Rattle.ix_model.specs.Shelved.{shelved_indexes, shelved}
use Rattle.ix_bounds.specs.Parts.{Parts, channel_of, IsPartsOf}
use Rattle.ix_bounds.specs.Within.{item_size, settings_size, channel_size, spot_size, size}
use Rattle.ix_bounds.proofs.Added.{in_ledger, entries_sum}
use Rattle.ix_bounds.proofs.Filled.{IsFilled, AreFilled}
use Rattle.ix_bounds.proofs.Listed.{IsNumbered, numbered_in, has_slots, has_number_is}
use Rattle.ix_bounds.proofs.Sums.{sum_same, sum_map, sum_flat, sum_two, all_from, fresh_sum}

body_size : (xs : List Item) → length (body_bytes xs) ≡ sum_by item_size xs
body_size xs = length-flat_map item_bytes xs

-- ---- an index

-- the number of the next bucket has an item where there was one
abbrev number_size : Bool → List ℕ → ℕ
number_size b name = if b then 13 + length name else 0

abbrev buckets_size : Index → ℕ
buckets_size i = sum_by item_size (bucket_items i)

abbrev index_size : Index → ℕ
index_size i = buckets_size i + number_size (has_slots i.slots) i.name

view_size : (entries : List Entry) (force : List Kept) (i : Index) → IsNumbered entries i →
    sum_by item_size (index_items entries (index_view force i)) ≡ index_size i
view_size entries force i h =
    ap (λ (b : Bool). sum_by item_size (bucket_items i ++ (if b then next ∷ [] else []))) (has_number_is entries i.name i.slots h)
    ∙ by (has_slots i.slots)
  where
    next : Item
    next = items.NextId i.name (next_number i.name (buckets i.slots) entries)

    by : (b : Bool) → sum_by item_size (bucket_items i ++ (if b then next ∷ [] else [])) ≡ buckets_size i + number_size b i.name
    by true =
        let a = sum_by-append item_size (bucket_items i) (next ∷ []) in
        let b = next_size i.name (next_number i.name (buckets i.slots) entries) in
        omega (arith, a, b)
    by false = let a = sum_by-append item_size (bucket_items i) [] in omega (arith, a)

filled_size : (i : Index) → IsFilled i → index_size i ≡ buckets_size i + item_size (next_item i)
filled_size i h = by i.slots h.1
  where
    by : (slots : List Slot) → 1 ≤ length slots → buckets_size i + number_size (has_slots slots) i.name ≡ buckets_size i + item_size
        (next_item i)
    by [] k = absurd (omega (arith, k))
    by (s ∷ slots) k = let a = next_size i.name (length i.slots) in omega (arith, a)

-- ---- shelves and the ledger

abbrev Joined : Catalog → List Entry → Type 0
Joined s entries = HasAll s × AreFilled s × AreAscending index_name s.indexes × IsPermutation entries s.ledger

shelves_size : (force : List Kept) (s : Catalog) (entries : List Entry) → Joined s entries →
    sum_by (λ (v : IndexView). sum_by item_size (index_items entries v)) (shelved_indexes force s.indexes)
    ≡ sum_by buckets_size s.indexes + sum_by (λ (i : Index). item_size (next_item i)) s.indexes
shelves_size force s entries h =
    let all = fold with_fresh s.indexes (configured force) in
    let a = sum_map (λ (v : IndexView). sum_by item_size (index_items entries v)) (index_view force) all in
    let b = sum_same (λ (i : Index). sum_by item_size (index_items entries (index_view force i))) index_size all
    (all_from (IsNumbered entries) (λ i. sum_by item_size (index_items entries (index_view force i)) ≡ index_size i)
    (view_size entries force) all
    (numbered_in s (configured force) entries h.0 h.2 h.3)) in
    let c = fresh_sum index_size (λ name. refl) (configured force) s.indexes in
    let d = sum_same index_size (λ (i : Index). buckets_size i + item_size (next_item i)) s.indexes
    (all_from IsFilled (λ i. index_size i ≡ buckets_size i + item_size (next_item i)) filled_size s.indexes h.1) in
    let e = sum_two buckets_size (λ (i : Index). item_size (next_item i)) s.indexes in
    omega (arith, a, b, c, d, e)

abbrev entry_size : Entry → ℕ
entry_size e = item_size (items.Ledger e)

shelf_size_is : (force : List Kept) (s : Catalog) (entries : List Entry) → Joined s entries →
    shelf_size entries (shelved force s)
    ≡ sum_by buckets_size s.indexes + sum_by (λ (i : Index). item_size (next_item i)) s.indexes + sum_by
    (λ (i : Index). sum_by item_size (entry_items i)) s.indexes
shelf_size_is force s entries h =
    let views = shelved_indexes force s.indexes in
    let a = body_size (shelf_items entries (shelved force s)) in
    let b = sum_by-append item_size (flat_map (index_items entries) views) (map items.Ledger entries) in
    let c = sum_flat item_size (index_items entries) views in
    let d = shelves_size force s entries h in
    let e = sum_map item_size items.Ledger entries in
    let f = entries_sum entry_size s entries h.0 h.3 in
    let g = sum_same (λ (i : Index). sum_by item_size (entry_items i)) (in_ledger entry_size) s.indexes (every s.indexes) in
    omega (arith, a, b, c, d, e, f, g)
  where
    every : (is : List Index) → AllByRecursion (λ (i : Index). sum_by item_size (entry_items i) ≡ in_ledger entry_size i) is
    every [] = tt
    every (i ∷ is) = (sum_map item_size items.Ledger (ledger i.slots), every is)

-- ---- a state

state_size : (m : State) → length (body_bytes (sized_items m))
    ≡ settings_size m.force
    + sum_by buckets_size m.catalog.indexes
    + sum_by (λ (i : Index). sum_by item_size (entry_items i)) m.catalog.indexes
    + sum_by spot_size m.spots
    + sum_by (λ (i : Index). item_size (next_item i)) m.catalog.indexes
    + sum_by (λ (life : ChannelHistory). item_size (channel_item life)) m.channels
state_size m =
    let one = items.Settings m.force in
    let two = flat_map bucket_items m.catalog.indexes in
    let three = flat_map entry_items m.catalog.indexes in
    let four = map items.Spot m.spots in
    let five = map next_item m.catalog.indexes in
    let six = map channel_item m.channels in
    let a = body_size (sized_items m) in
    let b = sum_by-append item_size (one ∷ two ++ three ++ four ++ five) six in
    let c = sum_by-append item_size (one ∷ two ++ three ++ four) five in
    let d = sum_by-append item_size (one ∷ two ++ three) four in
    let e = sum_by-append item_size (one ∷ two) three in
    let f = sum_by-cons item_size one two in
    let g = sum_flat item_size bucket_items m.catalog.indexes in
    let h = sum_flat item_size entry_items m.catalog.indexes in
    let i = sum_map item_size items.Spot m.spots in
    let j = sum_map item_size next_item m.catalog.indexes in
    let k = sum_map item_size channel_item m.channels in
    omega (arith, a, b, c, d, e, f, g, h, i, j, k)

pub size_is : (m : State) (p : Parts) → IsPartsOf m p → HasAll m.catalog → AreFilled m.catalog → AreAscending index_name m.catalog.indexes →
    size p ≡ length (body_bytes (sized_items m))
size_is m p h all filled ascending =
    let a = state_size m in
    let b = shelf_size_is m.force m.catalog p.ledger (all, filled, ascending, h.ledger_is) in
    let c = ap (λ s. shelf_size p.ledger s) h.shelves_are in
    let d = ap settings_size h.kept_are in
    let e = ap (sum_by channel_size) h.channels_are in
    let f = sum_map channel_size channel_of m.channels in
    let g = ap (sum_by spot_size) h.spots_are in
    omega (arith, a, b, c, d, e, f, g)
