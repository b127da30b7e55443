-- Of the indexes that are seen, those that ever had a bucket are the ones that a state has.
use Rattle.std.proofs.Common.{◌≡◌, ◌≤◌, ℕ, Bool, true, false, List, [], ◌∷◌, ◌++◌, length, map, refl, ap, ◌∙◌, arith}
use Rattle.std.specs.Prelude.{if◌then◌else◌, is_some, filter, fold}
use Rattle.std.specs.List.{AllByRecursion, flat_map}
use Rattle.std.specs.List.Sorted.{IsPermutation}
use Rattle.ix_items.specs.declared.items.Bucket.{Bucket}
use Rattle.ix_items.specs.declared.items.Entry.{Entry}
use Rattle.ix_items.specs.declared.items.Item.TheVariants as items
use Rattle.ix_items.specs.declared.items.Kept.{Kept}
use Rattle.ix_life.specs.Order.{put}
use Rattle.ix_life.specs.declared.views.IndexView.{IndexView}
use Rattle.ix_model.specs.Bounds.{bucket_items}
use Rattle.ix_model.specs.Buckets.{Slot, Index, buckets}
use Rattle.ix_model.specs.Given.{Chooser}
use Rattle.ix_model.specs.Shown.{configured, with_fresh, index_view}
use Rattle.ix_model.specs.State.{index_name, fresh_index}
use Rattle.ix_model.specs.Step.{state_after}
use Rattle.ix_model.specs.declared.commands.TimedCommand.{TimedCommand}
use Rattle.ix_model.proofs.Ascending.{in_order_after}
use Rattle.ix_model.proofs.Ledgers.{all_after}
use Rattle.ix_model.proofs.Named.{by_test}
use Rattle.ix_catalog.specs.Lists.{find, change, insert, stands_before}
use Rattle.ix_catalog.specs.Measures.{has_number}
use Rattle.ix_catalog.specs.Shelves.{next_number}
use Rattle.ix_model.specs.Books.{number_item}
use Rattle.ix_model.specs.Shelved.{shelved_indexes}
use Rattle.ix_bounds.proofs.Filled.{IsFilled, filled_after}
use Rattle.ix_bounds.proofs.Listed.{IsNumbered, numbered_in, has_slots, has_number_is}
use Rattle.ix_bounds.proofs.Sums.{all_from}
use Rattle.ix_bounds.proofs.Steps.{change_same}
use Rattle.ix_recovery.specs.Putting.{bucket_item, view_items, number_items}

true_false : true ≡ false → ⊥
true_false e = cc

-- ---- lists

filter_map : {X Y : Type 0} (q : Y → Bool) (f : X → Y) (xs : List X) → filter q (map f xs) ≡ map f (filter (λ x. q (f x)) xs)
filter_map q f [] = refl
filter_map {X} {Y} q f (x ∷ xs) =
    by_test (q (f x))
    (λ t. rw t (ap (λ (l : List Y). f x ∷ l) (filter_map q f xs)))
    (λ t. rw t (filter_map q f xs))

filter_same : {X : Type 0} (p q : X → Bool) (xs : List X) → AllByRecursion (λ x. p x ≡ q x) xs → filter p xs ≡ filter q xs
filter_same p q [] h = refl
filter_same {X} p q (x ∷ xs) h =
    by_test (q x)
    (λ t. (let u : p x ≡ true = h.0 ∙ t in rw (t, u) (ap (λ (l : List X). x ∷ l) (filter_same p q xs h.1))))
    (λ t. (let u : p x ≡ false = h.0 ∙ t in rw (t, u) (filter_same p q xs h.1)))

filter_all : {X : Type 0} (p : X → Bool) (xs : List X) → AllByRecursion (λ x. p x ≡ true) xs → filter p xs ≡ xs
filter_all p [] h = refl
filter_all {X} p (x ∷ xs) h = let t = h.0 in rw t (ap (λ (l : List X). x ∷ l) (filter_all p xs h.1))

filter_put : {X : Type 0} (p : X → Bool) (before : X → X → Bool) (a : X) (xs : List X) → p a ≡ false →
    filter p (put before a xs) ≡ filter p xs
filter_put p before a [] h = rw h refl
filter_put {X} p before a (x ∷ xs) h =
    by_test (before x a)
    (λ t. rw t (by_test (p x)
    (λ u. rw u (ap (λ (l : List X). x ∷ l) (filter_put p before a xs h)))
    (λ u. rw u (filter_put p before a xs h))))
    (λ t. rw (t, h) refl)

-- what is left out gives nothing
flat_filter : {X Y : Type 0} (p : X → Bool) (g : X → List Y) → ((x : X) → p x ≡ false → g x ≡ []) → (xs : List X) →
    flat_map g xs ≡ flat_map g (filter p xs)
flat_filter p g none [] = refl
flat_filter {X} {Y} p g none (x ∷ xs) =
    by_test (p x)
    (λ t. rw t (ap (λ (l : List Y). g x ++ l) (flat_filter p g none xs)))
    (λ t. rw t (ap (λ (l : List Y). l ++ flat_map g xs) (none x t) ∙ flat_filter p g none xs))

pub flat_single : {X Y : Type 0} (f : X → Y) (xs : List X) → flat_map (λ (x : X). f x ∷ []) xs ≡ map f xs
flat_single f [] = refl
flat_single {X} {Y} f (x ∷ xs) = ap (λ (l : List Y). f x ∷ l) (flat_single f xs)

-- ---- indexes without buckets

abbrev had : Index → Bool
had i = has_slots i.slots

filter_one : (is : List Index) (name : List ℕ) → filter had (with_fresh is name) ≡ filter had is
filter_one is name = by (is_some (find index_name name is))
  where
    by : (b : Bool) → filter had (if b then change index_name name (λ (i : Index). i) is else insert index_name (fresh_index name)
        is) ≡ filter had is
    by true = ap (filter had) (change_same index_name name is)
    by false = filter_put had (stands_before index_name) (fresh_index name) is refl

filter_fresh : (names : List (List ℕ)) (is : List Index) → filter had (fold with_fresh is names) ≡ filter had is
filter_fresh [] is = refl
filter_fresh (name ∷ names) is = filter_fresh names (with_fresh is name) ∙ filter_one is name

filled_had : (i : Index) → IsFilled i → had i ≡ true
filled_had i h = by i.slots h.1
  where
    by : (slots : List Slot) → 1 ≤ length slots → has_slots slots ≡ true
    by [] k = absurd (omega (arith, k))
    by (s ∷ slots) k = refl

-- ---- what is put of them

none_seen : (ledger : List Entry) (v : IndexView) → has_number ledger v ≡ false → view_items v ≡ []
none_seen ledger v h = by v.buckets h
  where
    by : (bs : List Bucket) → has_number ledger (record { name = v.name; limits = v.limits; buckets = bs }) ≡ false →
        flat_map (bucket_item v.name) bs ≡ []
    by [] e = refl
    by (b ∷ bs) e = absurd (true_false e)

none_numbered : (ledger : List Entry) (v : IndexView) → has_number ledger v ≡ false → number_items ledger v ≡ []
none_numbered ledger v h = rw h refl

module _ (choose : Chooser) (history : List TimedCommand) (force : List Kept) (entries : List Entry)
    (moved : IsPermutation entries (state_after choose history).catalog.ledger) where
  abbrev is : List Index
  is = (state_after choose history).catalog.indexes

  abbrev views : List IndexView
  views = shelved_indexes force is

  found : filter (has_number entries) views ≡ map (index_view force) is
  found =
      filter_map (has_number entries) (index_view force) (fold with_fresh is (configured force))
      ∙ ap (map (index_view force))
      (filter_same (λ (i : Index). has_number entries (index_view force i)) had (fold with_fresh is (configured force))
      (all_from (IsNumbered entries) (λ (i : Index). has_number entries (index_view force i) ≡ had i)
      (λ i n. has_number_is entries i.name i.slots n)
      (fold with_fresh is (configured force))
      (numbered_in (state_after choose history).catalog (configured force) entries (all_after choose history)
      (in_order_after choose history).indexes moved))
      ∙ filter_fresh (configured force) is
      ∙ filter_all had is
      (all_from IsFilled (λ (i : Index). had i ≡ true) filled_had is (filled_after choose history)))

  -- their buckets
  seen_from : (xs : List Index) → flat_map view_items (map (index_view force) xs) ≡ flat_map bucket_items xs
  seen_from [] = refl
  seen_from (i ∷ xs) =
      let first = flat_single (items.Bucket i.name) (buckets i.slots) in
      let rest = seen_from xs in
      (λ j. first j ++ rest j)

  pub buckets_seen : flat_map view_items views ≡ flat_map bucket_items is
  buckets_seen = flat_filter (has_number entries) view_items (none_seen entries) views ∙ ap (flat_map view_items) found ∙ seen_from is

  -- and the numbers of the next ones
  one_numbered : (i : Index) → IsNumbered entries i → had i ≡ true → number_items entries (index_view force i) ≡ number_item i ∷ []
  one_numbered i n h =
      ap (λ (b : Bool). if b then items.NextId i.name (next_number i.name (buckets i.slots) entries)
      ∷ [] else []) (has_number_is entries i.name i.slots n ∙ h)
      ∙ ap (λ (k : ℕ). items.NextId i.name k ∷ []) n

  numbered_from : (xs : List Index) → AllByRecursion (IsNumbered entries) xs → AllByRecursion (λ (i : Index). had i ≡ true) xs →
      flat_map (number_items entries) (map (index_view force) xs) ≡ map number_item xs
  numbered_from [] n h = refl
  numbered_from (i ∷ xs) n h =
      let first = one_numbered i n.0 h.0 in
      let rest = numbered_from xs n.1 h.1 in
      (λ j. first j ++ rest j)

  pub numbers_seen : flat_map (number_items entries) views ≡ map number_item is
  numbers_seen =
      flat_filter (has_number entries) (number_items entries) (none_numbered entries) views ∙ ap (flat_map (number_items entries)) found
      ∙ numbered_from is
      (numbered_in (state_after choose history).catalog [] entries (all_after choose history) (in_order_after choose history).indexes moved)
      (all_from IsFilled (λ (i : Index). had i ≡ true) filled_had is (filled_after choose history))
