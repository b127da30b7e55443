-- Entries that are brought into the order in which they are seen: the same ones, and none of them
-- stands before the one in front of it.
use Rattle.std.proofs.Common.{◌≡◌, ℕ, zero, suc, ◌<◌, Bool, true, false, List, [], ◌∷◌, length, get_or, refl, arith, add-one}
use Rattle.std.specs.Cmp.{IsStrictWeakOrder, IsTotalOrder}
use Rattle.std.specs.List.Sorted.{IsPermutation, IsSortedBy, IsStableBy}
use Rattle.std.proofs.lemmas.Cmp.{then_total, on_total, int_cmp_total, nat_cmp_total, nat_list_cmp_total}
use Rattle.std.proofs.lemmas.List.Sorted.{IsPermutation-refl, IsPermutation-cons, IsPermutation-trans, IsPermutation-middle, ranks_by}
use Rattle.ix_items.specs.declared.items.Entry.{Entry}
use Rattle.ix_life.specs.Order.{put, sorted_by}
use Rattle.ix_model.specs.Ranked.{rule_place, entry_cmp, ranks_before, ranked}
use Rattle.ix_model.proofs.Named.{by_test}
use Rattle.ix_model.proofs.Sorts.{sorted_once}

-- the order compares any two of them
pub entry_cmp_total : IsTotalOrder entry_cmp
entry_cmp_total =
    then_total (then_total (then_total (then_total
    (on_total (λ (e : Entry). e.moment) int_cmp_total)
    (on_total (λ (e : Entry). e.index) nat_list_cmp_total))
    (on_total (λ (e : Entry). rule_place e.rule) nat_cmp_total))
    (on_total (λ (e : Entry). e.newest) int_cmp_total))
    (on_total (λ (e : Entry). e.id) nat_cmp_total)

pub entries_compared : IsStrictWeakOrder ranks_before
entries_compared = ranks_by entry_cmp_total (λ (e : Entry). e)

-- none stands before the one in front of it: x, and then those of a list
abbrev AreBehind : {X : Type 0} → (X → X → Bool) → X → List X → Type 0
AreBehind lt x [] = Unit {0}
AreBehind lt x (y ∷ ys) = (lt y x ≡ false) × AreBehind lt y ys

abbrev Rise : {X : Type 0} → (X → X → Bool) → List X → Type 0
Rise lt [] = Unit {0}
Rise lt (x ∷ xs) = AreBehind lt x xs

module _ {X : Type 0} (lt : X → X → Bool) where
  put_moved : (a : X) (xs : List X) → IsPermutation (a ∷ xs) (put lt a xs)
  put_moved a [] = IsPermutation-refl (a ∷ [])
  put_moved a (x ∷ xs) =
      by_test (lt x a)
      (λ t. rw t (IsPermutation-trans (a ∷ x ∷ xs) (x ∷ a ∷ xs) (x ∷ put lt a xs) (IsPermutation-middle (a ∷ []) x xs)
      (IsPermutation-cons x (a ∷ xs) (put lt a xs) (put_moved a xs))))
      (λ t. rw t (IsPermutation-refl (a ∷ x ∷ xs)))

  sorted_moved : (xs : List X) → IsPermutation xs (sorted_by lt xs)
  sorted_moved [] = IsPermutation-refl []
  sorted_moved (x ∷ xs) =
      IsPermutation-trans (x ∷ xs) (x ∷ sorted_by lt xs) (put lt x (sorted_by lt xs))
      (IsPermutation-cons x xs (sorted_by lt xs) (sorted_moved xs))
      (put_moved x (sorted_by lt xs))

  risen_at : (x : X) (xs : List X) (k : ℕ) (d : X) → AreBehind lt x xs → suc k < length (x ∷ xs) →
      lt (get_or (x ∷ xs) (suc k) d) (get_or (x ∷ xs) k d) ≡ false
  risen_at x [] k d h within = absurd (omega arith)
  risen_at x (y ∷ ys) zero d h within = h.0
  risen_at x (y ∷ ys) (suc k) d h within = risen_at y ys k d h.1 (omega arith)

  risen : (xs : List X) → Rise lt xs → IsSortedBy lt xs
  risen [] h = λ k d low within. absurd (omega arith)
  risen (x ∷ xs) h = λ k d low within. rw add-one (risen_at x xs k d h (omega arith))

  module _ (o : IsStrictWeakOrder lt) where
    put_behind : (x a : X) (ys : List X) → lt a x ≡ false → AreBehind lt x ys → AreBehind lt x (put lt a ys)
    put_behind x a [] l h = (l, tt)
    put_behind x a (y ∷ ys) l h =
        by_test (lt y a) (λ t. rw t (h.0, put_behind y a ys (o.one_way y a t) h.1)) (λ t. rw t (l, (t, h.1)))

    put_in : (a : X) (ys : List X) → Rise lt ys → Rise lt (put lt a ys)
    put_in a [] h = tt
    put_in a (y ∷ ys) h = by_test (lt y a) (λ t. rw t (put_behind y a ys (o.one_way y a t) h)) (λ t. rw t (t, h))

    sorted_rise : (xs : List X) → Rise lt (sorted_by lt xs)
    sorted_rise [] = tt
    sorted_rise (x ∷ xs) = put_in x (sorted_by lt xs) (sorted_rise xs)

pub ranked_moved : (entries : List Entry) → IsPermutation entries (ranked entries)
ranked_moved entries = sorted_moved ranks_before entries

pub ranked_rises : (entries : List Entry) → IsSortedBy ranks_before (ranked entries)
ranked_rises entries = risen ranks_before (ranked entries) (sorted_rise ranks_before entries_compared entries)

-- and what a stable sort makes of them
pub ranked_by_sort : (entries sorted : List Entry) → IsSortedBy ranks_before sorted → IsStableBy ranks_before entries sorted →
    sorted ≡ ranked entries
ranked_by_sort entries sorted rises stable = sorted_once ranks_before entries_compared entries sorted (ranked_rises entries) rises stable
