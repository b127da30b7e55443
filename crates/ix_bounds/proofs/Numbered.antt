-- Those that ever had a bucket are told by the buckets that are listed and by the ledger.
use Rattle.std.proofs.Common.{◌≡◌, ◌≤◌, ℕ, Bool, true, false, List, [], ◌∷◌, length, map, refl, sym, ap, ◌∙◌, subst, arith}
use Rattle.std.specs.Prelude.{if◌then◌else◌, is_some, filter, fold}
use Rattle.std.specs.List.{AllByRecursion, AllZip}
use Rattle.std.specs.List.Sorted.{IsPermutation}
use Rattle.ix_items.specs.declared.items.Entry.{Entry}
use Rattle.ix_items.specs.declared.items.Kept.{Kept}
use Rattle.ix_life.specs.Order.{put}
use Rattle.ix_life.specs.declared.views.IndexView.{IndexView}
use Rattle.ix_model.specs.Buckets.{Slot, Index}
use Rattle.ix_model.specs.Given.{Chooser}
use Rattle.ix_model.specs.Shown.{configured, with_fresh, index_view}
use Rattle.ix_model.specs.State.{index_name, fresh_index}
use Rattle.ix_model.specs.Step.{state_after}
use Rattle.ix_model.specs.declared.commands.TimedCommand.{TimedCommand}
use Rattle.ix_model.proofs.Ascending.{in_order_after}
use Rattle.ix_model.proofs.Ledgers.{all_after}
use Rattle.ix_model.proofs.Named.{by_test}
use Rattle.ix_catalog.specs.Lists.{find, change, insert, stands_before}
use Rattle.ix_catalog.specs.Measures.{has_number}
use Rattle.ix_model.specs.Shelved.{shelved_indexes}
use Rattle.ix_bounds.proofs.Filled.{IsFilled, filled_after}
use Rattle.ix_bounds.proofs.Listed.{IsNumbered, numbered_in, has_slots, has_number_is}
use Rattle.ix_bounds.proofs.Sums.{all_from}
use Rattle.ix_bounds.specs.Names.{BringsLimits}
use Rattle.ix_bounds.specs.Shelving.{IsBucketed, AreIndexes, bucketed_of, bucketed}
use Rattle.ix_bounds.proofs.Steps.{change_same}
use Rattle.ix_bounds.proofs.Volumes.{names_are_no_volumes}

-- ---- lists that are filtered

filter_map : {X Y : Type 0} (q : Y → Bool) (f : X → Y) (xs : List X) → filter q (map f xs) ≡ map f (filter (λ x. q (f x)) xs)
filter_map q f [] = refl
filter_map {X} {Y} q f (x ∷ xs) =
    by_test (q (f x))
    (λ t. rw t (ap (λ (l : List Y). f x ∷ l) (filter_map q f xs)))
    (λ t. rw t (filter_map q f xs))

filter_same : {X : Type 0} (p q : X → Bool) (xs : List X) → AllByRecursion (λ x. p x ≡ q x) xs → filter p xs ≡ filter q xs
filter_same p q [] h = refl
filter_same {X} p q (x ∷ xs) h =
    by_test (q x)
    (λ t. (let u : p x ≡ true = h.0 ∙ t in rw (t, u) (ap (λ (l : List X). x ∷ l) (filter_same p q xs h.1))))
    (λ t. (let u : p x ≡ false = h.0 ∙ t in rw (t, u) (filter_same p q xs h.1)))

filter_all : {X : Type 0} (p : X → Bool) (xs : List X) → AllByRecursion (λ x. p x ≡ true) xs → filter p xs ≡ xs
filter_all p [] h = refl
filter_all {X} p (x ∷ xs) h = let t = h.0 in rw t (ap (λ (l : List X). x ∷ l) (filter_all p xs h.1))

filter_put : {X : Type 0} (p : X → Bool) (before : X → X → Bool) (a : X) (xs : List X) → p a ≡ false →
    filter p (put before a xs) ≡ filter p xs
filter_put p before a [] h = rw h refl
filter_put {X} p before a (x ∷ xs) h =
    by_test (before x a)
    (λ t. rw t (by_test (p x)
    (λ u. rw u (ap (λ (l : List X). x ∷ l) (filter_put p before a xs h)))
    (λ u. rw u (filter_put p before a xs h))))
    (λ t. rw (t, h) refl)

-- ---- indexes without buckets

abbrev had : Index → Bool
had i = has_slots i.slots

filter_one : (is : List Index) (name : List ℕ) → filter had (with_fresh is name) ≡ filter had is
filter_one is name = by (is_some (find index_name name is))
  where
    by : (b : Bool) → filter had (if b then change index_name name (λ (i : Index). i) is else insert index_name (fresh_index name)
        is) ≡ filter had is
    by true = ap (filter had) (change_same index_name name is)
    by false = filter_put had (stands_before index_name) (fresh_index name) is refl

filter_fresh : (names : List (List ℕ)) (is : List Index) → filter had (fold with_fresh is names) ≡ filter had is
filter_fresh [] is = refl
filter_fresh (name ∷ names) is = filter_fresh names (with_fresh is name) ∙ filter_one is name

filled_had : (i : Index) → IsFilled i → had i ≡ true
filled_had i h = by i.slots h.1
  where
    by : (slots : List Slot) → 1 ≤ length slots → has_slots slots ≡ true
    by [] k = absurd (omega (arith, k))
    by (s ∷ slots) k = refl

-- ---- those that ever had a bucket

module _ (choose : Chooser) (history : List TimedCommand) (force : List Kept) (entries : List Entry)
    (moved : IsPermutation entries (state_after choose history).catalog.ledger) where
  found : filter (has_number entries) (shelved_indexes force (state_after choose history).catalog.indexes) ≡ map (index_view force)
      (state_after choose history).catalog.indexes
  found =
      filter_map (has_number entries) (index_view force) (fold with_fresh (state_after choose history).catalog.indexes (configured force))
      ∙ ap (map (index_view force))
      (filter_same (λ (i : Index). has_number entries (index_view force i)) had
      (fold with_fresh (state_after choose history).catalog.indexes (configured force))
      (all_from (IsNumbered entries) (λ (i : Index). has_number entries (index_view force i) ≡ had i)
      (λ i n. has_number_is entries i.name i.slots n)
      (fold with_fresh (state_after choose history).catalog.indexes (configured force))
      (numbered_in (state_after choose history).catalog (configured force) entries (all_after choose history)
      (in_order_after choose history).indexes moved))
      ∙ filter_fresh (configured force) (state_after choose history).catalog.indexes
      ∙ filter_all had (state_after choose history).catalog.indexes
      (all_from IsFilled (λ (i : Index). had i ≡ true) filled_had (state_after choose history).catalog.indexes
      (filled_after choose history)))

  zipped : (is : List Index) → AllZip IsBucketed is (map bucketed_of (map (index_view force) is))
  zipped [] = tt
  zipped (i ∷ is) = (record { name = refl; buckets = refl }, zipped is)

  pub are_indexes : AllByRecursion BringsLimits history →
      AreIndexes (state_after choose history).catalog.indexes
      (bucketed entries (shelved_indexes force (state_after choose history).catalog.indexes))
  are_indexes brings =
      record {
        names = names_are_no_volumes choose history brings;
        zipped = subst (λ (l : List IndexView). AllZip IsBucketed (state_after choose history).catalog.indexes (map bucketed_of l))
            (sym found)
            (zipped (state_after choose history).catalog.indexes);
        ascending = (in_order_after choose history).indexes;
      }
