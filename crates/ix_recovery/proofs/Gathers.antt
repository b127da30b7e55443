-- What is gathered of a list of items, in whatever order they stand.
use Rattle.std.proofs.Common.{◌≡◌, ℤ, pos, List, [], ◌∷◌, ◌++◌, map, refl, sym, ap, subst, ◌∙◌}
use Rattle.std.specs.Prelude.{Option, Some, None, unwrap_or}
use Rattle.std.specs.List.{filter_map, flat_map, cons_option}
use Rattle.std.specs.List.Sorted.{IsPermutation}
use Rattle.std.proofs.lemmas.List.Sorted.{IsPermutation-refl, IsPermutation-cons, IsPermutation-sym, IsPermutation-trans}
use Rattle.std.proofs.lemmas.List.Sorted.{IsPermutation-to_front}
use Rattle.ix_items.specs.declared.items.Item.{Item}
use Rattle.ix_model.specs.Ledger.{all_frozen}
use Rattle.ix_model.specs.State.{State, index_name}
use Rattle.ix_recovery.specs.declared.gathering.GatheredItems.{GatheredItems}
use Rattle.ix_recovery.specs.Gathered.{settings_in, moments_in, channel_in, bucket_in, entry_in, counts_in, spot_in, next_file_in}
use Rattle.ix_recovery.specs.Gathered.{index_in, no_counts, nothing, with_one, all_taken}
use Rattle.ix_recovery.specs.Standing.{carried_life, placed_in, counted, first_or, IsOnly, SaysAll, IsGathered}
use Rattle.ix_recovery.proofs.Shuffles.{picked_moved, short_same}

-- ---- lists

collected : {A : Type 0} → (Item → Option A) → List Item → List A
collected f [] = []
collected f (item ∷ items) = with_one (collected f items) (f item)

one_moved : {A : Type 0} (o : Option A) (picked given : List A) → IsPermutation picked given →
    IsPermutation (cons_option o picked) (with_one given o)
one_moved None picked given moved = moved
one_moved (Some x) picked given moved =
    IsPermutation-trans (x ∷ picked) (x ∷ given) (given ++ x ∷ []) (IsPermutation-cons x picked given moved)
    (IsPermutation-sym (given ++ x ∷ []) (x ∷ given) (IsPermutation-to_front given x))

collected_moved : {A : Type 0} (f : Item → Option A) (items : List Item) → IsPermutation (filter_map f items) (collected f items)
unfolding collected
collected_moved f [] = IsPermutation-refl []
collected_moved f (item ∷ items) = one_moved (f item) (filter_map f items) (collected f items) (collected_moved f items)

-- ---- single things

chosen : {A : Type 0} → (Item → Option A) → A → List Item → A
chosen f default [] = default
chosen f default (item ∷ items) = unwrap_or (f item) (chosen f default items)

one_first : {A : Type 0} (o : Option A) (default value : A) (xs : List A) → value ≡ first_or default xs →
    unwrap_or o value ≡ first_or default (cons_option o xs)
one_first None default value xs is = is
one_first (Some x) default value xs is = refl

chosen_first : {A : Type 0} (f : Item → Option A) (default : A) (items : List Item) →
    chosen f default items ≡ first_or default (filter_map f items)
unfolding chosen
chosen_first f default [] = refl
chosen_first f default (item ∷ items) = one_first (f item) default (chosen f default items) (filter_map f items)
    (chosen_first f default items)

only_moved : {A : Type 0} (f : Item → Option A) (default value : A) (said items : List Item) → IsPermutation said items →
    IsOnly default value (filter_map f said) →
    chosen f default items ≡ value
only_moved f default value said items moved only =
    chosen_first f default items
    ∙ ap (first_or default) (short_same (filter_map f said) (filter_map f items) only.few (picked_moved f said items moved)) ∙ only.value_is

-- ---- each part

kept_is : (items : List Item) → (all_taken items nothing).kept ≡ chosen settings_in [] items
unfolding chosen
kept_is [] = refl
kept_is (item ∷ items) = ap (unwrap_or (settings_in item)) (kept_is items)

counts_are : (items : List Item) → (all_taken items nothing).counts ≡ chosen counts_in no_counts items
unfolding chosen
counts_are [] = refl
counts_are (item ∷ items) = ap (unwrap_or (counts_in item)) (counts_are items)

next_file_is : (items : List Item) → (all_taken items nothing).next_file ≡ chosen next_file_in 1 items
unfolding chosen
next_file_is [] = refl
next_file_is (item ∷ items) = ap (unwrap_or (next_file_in item)) (next_file_is items)

abbrev moments_of : GatheredItems → ℤ × ℤ
moments_of g = (g.last, g.tick)

moments_are : (items : List Item) → moments_of (all_taken items nothing) ≡ chosen moments_in (pos 0, pos 0) items
unfolding chosen
moments_are [] = refl
moments_are (item ∷ items) = ap (unwrap_or (moments_in item)) (moments_are items)

channels_are : (items : List Item) → (all_taken items nothing).channels ≡ collected channel_in items
unfolding collected
channels_are [] = refl
channels_are (item ∷ items) = ap (λ l. with_one l (channel_in item)) (channels_are items)

buckets_are : (items : List Item) → (all_taken items nothing).buckets ≡ collected bucket_in items
unfolding collected
buckets_are [] = refl
buckets_are (item ∷ items) = ap (λ l. with_one l (bucket_in item)) (buckets_are items)

entries_are : (items : List Item) → (all_taken items nothing).entries ≡ collected entry_in items
unfolding collected
entries_are [] = refl
entries_are (item ∷ items) = ap (λ l. with_one l (entry_in item)) (entries_are items)

spots_are : (items : List Item) → (all_taken items nothing).spots ≡ collected spot_in items
unfolding collected
spots_are [] = refl
spots_are (item ∷ items) = ap (λ l. with_one l (spot_in item)) (spots_are items)

indexes_are : (items : List Item) → (all_taken items nothing).indexes ≡ collected index_in items
unfolding collected
indexes_are [] = refl
indexes_are (item ∷ items) = ap (λ l. with_one l (index_in item)) (indexes_are items)

-- ---- all of them

list_moved : {A : Type 0} (f : Item → Option A) (said items : List Item) (all given : List A) → IsPermutation said items →
    filter_map f said ≡ all →
    given ≡ collected f items → IsPermutation all given
list_moved f said items all given moved is has =
    subst (IsPermutation all) (sym has)
    (IsPermutation-trans all (filter_map f items) (collected f items)
    (subst (λ l. IsPermutation l (filter_map f items)) is (picked_moved f said items moved)) (collected_moved f items))

pub gathered : (m : State) (said items : List Item) → SaysAll m said → IsPermutation said items → IsGathered m (all_taken items nothing)
gathered m said items says moved =
    let moments = moments_are items ∙ only_moved moments_in (pos 0, pos 0) (m.last, m.tick) said items moved says.moments in
    record {
      kept = kept_is items ∙ only_moved settings_in [] m.force said items moved says.settings;
      last = ap (λ (p : ℤ × ℤ). p.0) moments;
      tick = ap (λ (p : ℤ × ℤ). p.1) moments;
      counts = counts_are items ∙ only_moved counts_in no_counts (counted m.catalog.counts) said items moved says.counts;
      next_file = next_file_is items ∙ only_moved next_file_in 1 m.catalog.next_file said items moved says.next_file;
      channels = list_moved channel_in said items (map carried_life m.channels) _ moved says.channels (channels_are items);
      buckets_are = list_moved bucket_in said items (flat_map placed_in m.catalog.indexes) _ moved says.buckets_are (buckets_are items);
      entries = list_moved entry_in said items (all_frozen m.catalog.indexes) _ moved says.entries (entries_are items);
      spots = list_moved spot_in said items m.spots _ moved says.spots (spots_are items);
      indexes = list_moved index_in said items (map index_name m.catalog.indexes) _ moved says.indexes (indexes_are items);
    }
