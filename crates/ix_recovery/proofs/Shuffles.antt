-- Lists in another order: what is picked of them, and when they are the same after all.
use Rattle.std.proofs.Common.{◌≡◌, ℕ, zero, suc, ◌≤◌, ◌<◌, Bool, true, false, cond, not, ◌&&◌, List, [], ◌∷◌, length, get_or, set, filter}
use Rattle.std.proofs.Common.{refl, sym, ap, subst, ◌∙◌, inl, inr, arith, add-one}
use Rattle.std.specs.Prelude.{Option, Some, None}
use Rattle.std.specs.Cmp.{IsStrictWeakOrder}
use Rattle.std.specs.List.{AllByRecursion, filter_map, cons_option, swap}
use Rattle.std.specs.List.Sorted.{IsPermutation, IsSortedBy, ties}
use Rattle.std.proofs.lemmas.Bool.{cases_Bool, false≢true}
use Rattle.std.proofs.lemmas.List.Sorted.{IsPermutation-refl, IsPermutation-cons, IsPermutation-trans, IsPermutation-middle}
use Rattle.std.proofs.lemmas.List.Sorted.{IsPermutation-keeps, sorted_far}
use Rattle.ix_model.proofs.Sorts.{rises_far, same_list}

-- ---- what is picked of a list

module _ {X Y : Type 0} (h : X → Option Y) where
  cons_moved : (o : Option Y) (xs ys : List Y) → IsPermutation xs ys → IsPermutation (cons_option o xs) (cons_option o ys)
  cons_moved None xs ys moved = moved
  cons_moved (Some y) xs ys moved = IsPermutation-cons y xs ys moved

  cons_flipped : (o p : Option Y) (xs : List Y) → IsPermutation (cons_option o (cons_option p xs)) (cons_option p (cons_option o xs))
  cons_flipped None p xs = IsPermutation-refl (cons_option p xs)
  cons_flipped (Some y) None xs = IsPermutation-refl (y ∷ xs)
  cons_flipped (Some y) (Some z) xs = IsPermutation-middle (y ∷ []) z xs

  -- the first one changes places with another
  first_moved : (a : X) (xs : List X) (j : ℕ) (d : X) → j < length xs →
      IsPermutation (cons_option (h a) (filter_map h xs)) (cons_option (h (get_or xs j d)) (filter_map h (set xs j a)))
  first_moved a [] j d within = absurd (omega arith)
  first_moved a (x ∷ xs) zero d within = cons_flipped (h a) (h x) (filter_map h xs)
  first_moved a (x ∷ xs) (suc j) d within =
      let there = get_or xs j d in
      let rest = set xs j a in
      IsPermutation-trans _ _ _ (cons_flipped (h a) (h x) (filter_map h xs))
      (IsPermutation-trans _ _ _ (cons_moved (h x) _ _ (first_moved a xs j d (omega arith)))
      (cons_flipped (h x) (h there) (filter_map h rest)))

  both_moved : (xs : List X) (i j : ℕ) (d : X) → i < length xs → j < length xs →
      IsPermutation (filter_map h xs) (filter_map h (set (set xs i (get_or xs j d)) j (get_or xs i d)))
  both_moved [] i j d a b = absurd (omega arith)
  both_moved (x ∷ xs) zero zero d a b = IsPermutation-refl (filter_map h (x ∷ xs))
  both_moved (x ∷ xs) zero (suc j) d a b = first_moved x xs j d (omega arith)
  both_moved (x ∷ xs) (suc i) zero d a b = first_moved x xs i d (omega arith)
  both_moved (x ∷ xs) (suc i) (suc j) d a b = cons_moved (h x) _ _ (both_moved xs i j d (omega arith) (omega arith))

  swap_moved : (xs : List X) (i j : ℕ) → i < length xs → j < length xs → IsPermutation (filter_map h xs) (filter_map h (swap xs i j))
  swap_moved [] i j a b = absurd (omega arith)
  swap_moved (x ∷ xs) i j a b = both_moved (x ∷ xs) i j x a b

  pub picked_moved : (xs ys : List X) → IsPermutation xs ys → IsPermutation (filter_map h xs) (filter_map h ys)
  picked_moved xs ys moved =
      IsPermutation-keeps xs (λ l. IsPermutation (filter_map h xs) (filter_map h l)) (IsPermutation-refl (filter_map h xs))
      (λ l i j a b before. IsPermutation-trans _ _ _ before (swap_moved l i j a b)) ys moved

-- ---- at most one

swap_short : {X : Type 0} (xs : List X) (i j : ℕ) → length xs ≤ 1 → i < length xs → j < length xs → swap xs i j ≡ xs
swap_short [] i j short a b = refl
swap_short (x ∷ []) zero zero short a b = refl
swap_short (x ∷ []) zero (suc j) short a b = absurd (omega arith)
swap_short (x ∷ []) (suc i) j short a b = absurd (omega arith)
swap_short (x ∷ y ∷ xs) i j short a b = absurd (omega arith)

pub short_same : {X : Type 0} (xs ys : List X) → length xs ≤ 1 → IsPermutation xs ys → ys ≡ xs
short_same xs ys short moved =
    IsPermutation-keeps xs (λ l. l ≡ xs) refl
    (λ l i j a b same. swap_short l i j (subst (λ m. length m ≤ 1) (sym same) short) a b ∙ same) ys moved

-- ---- those that pass a test

abbrev if_passes : {X : Type 0} → (X → Bool) → X → Option X
if_passes p x = cond (p x) (Some x) None

passed_first : {X : Type 0} (b : Bool) (x : X) (xs ys : List X) → xs ≡ ys → cond b (x ∷ xs) xs ≡ cons_option (cond b (Some x) None) ys
passed_first true x xs ys same = ap (λ l. x ∷ l) same
passed_first false x xs ys same = same

passed : {X : Type 0} (p : X → Bool) (xs : List X) → filter p xs ≡ filter_map (if_passes p) xs
passed p [] = refl
passed p (x ∷ xs) = passed_first (p x) x (filter p xs) (filter_map (if_passes p) xs) (passed p xs)

pub filter_moved : {X : Type 0} (p : X → Bool) (xs ys : List X) → IsPermutation xs ys → IsPermutation (filter p xs) (filter p ys)
filter_moved p xs ys moved =
    subst (λ l. IsPermutation l (filter p ys)) (sym (passed p xs))
    (subst (λ l. IsPermutation (filter_map (if_passes p) xs) l) (sym (passed p ys)) (picked_moved (if_passes p) xs ys moved))

-- ---- lists in order

-- each is before all that follow it
abbrev pub Climbs : {X : Type 0} → (X → X → Bool) → List X → Type 0
Climbs lt [] = Unit {0}
Climbs lt (x ∷ xs) = AllByRecursion (λ y. lt x y ≡ true) xs × Climbs lt xs

module _ {X : Type 0} (lt : X → X → Bool) (o : IsStrictWeakOrder lt) where
  climbs_at : (xs : List X) (k : ℕ) (d : X) → Climbs lt xs → suc k < length xs → lt (get_or xs (suc k) d) (get_or xs k d) ≡ false
  climbs_at [] k d climbs within = absurd (omega arith)
  climbs_at (x ∷ []) k d climbs within = absurd (omega arith)
  climbs_at (x ∷ y ∷ xs) zero d climbs within = o.one_way x y climbs.0.0
  climbs_at (x ∷ y ∷ xs) (suc k) d climbs within = climbs_at (y ∷ xs) k d climbs.1 (omega arith)

  climbs_sorted : (xs : List X) → Climbs lt xs → IsSortedBy lt xs
  climbs_sorted xs climbs = λ k d low within. rw add-one (climbs_at xs k d climbs (omega arith))

  tie_parts : (x y : X) → ties lt x y ≡ true → (lt x y ≡ false) × (lt y x ≡ false)
  tie_parts x y tie = by (lt x y) (lt y x) tie
    where
      by : (a b : Bool) → (not a && not b) ≡ true → (a ≡ false) × (b ≡ false)
      by false false tie = (refl, refl)
      by false true tie = absurd (false≢true tie)
      by true b tie = absurd (false≢true tie)

  no_tie : (x y z : X) → ties lt x y ≡ true → lt y z ≡ true → ties lt x z ≡ false
  no_tie x y z tie before =
      elim (cases_Bool (ties lt x z)) [
        | inr apart ↦ apart
        | inl both ↦ absurd (false≢true (sym (o.chain y x z (tie_parts x y tie).1 (tie_parts x z both).0) ∙ before))
      ]

  none_tie : (x y : X) (zs : List X) → ties lt x y ≡ true → AllByRecursion (λ z. lt y z ≡ true) zs → length (filter (ties lt x) zs) ≤ 0
  none_tie x y [] tie before = omega arith
  none_tie x y (z ∷ zs) tie before =
      let rest = none_tie x y zs tie before.1 in
      subst (λ (t : Bool). length (cond t (z ∷ filter (ties lt x) zs) (filter (ties lt x) zs)) ≤ 0) (sym (no_tie x y z tie before.0)) rest

  few_tie : (x : X) (zs : List X) → Climbs lt zs → length (filter (ties lt x) zs) ≤ 1
  few_tie x [] climbs = omega arith
  few_tie x (z ∷ zs) climbs = by (ties lt x z) refl (few_tie x zs climbs.1)
    where
      by : (t : Bool) → ties lt x z ≡ t → length (filter (ties lt x) zs) ≤ 1 →
          length (cond t (z ∷ filter (ties lt x) zs) (filter (ties lt x) zs)) ≤ 1
      by true tie few = let none = none_tie x z zs tie climbs.0 in omega (arith, none)
      by false apart few = few

  -- what climbs is what each sort makes of it
  pub sorted_same : (given sorted : List X) → IsPermutation given sorted → IsSortedBy lt sorted → Climbs lt given → sorted ≡ given
  sorted_same given sorted moved rising climbs =
      same_list lt o sorted given (rises_far lt sorted (sorted_far lt o sorted rising))
      (rises_far lt given (sorted_far lt o given (climbs_sorted given climbs)))
      (λ x. short_same (filter (ties lt x) given) (filter (ties lt x) sorted) (few_tie x given climbs)
      (filter_moved (ties lt x) given sorted moved))
