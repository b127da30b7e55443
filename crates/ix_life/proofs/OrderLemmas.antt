-- A stable sort is the list in order.
use Rattle.std.proofs.Common.{◌≡◌, ℕ, ℤ, zero, suc, ◌<◌, ◌≤◌, Bool, true, false, cond, not, ◌&&◌, List, [], ◌∷◌, length, get_or, filter}
use Rattle.std.proofs.Common.{refl, sym, ap, ◌∙◌, inl, inr, suc-le-suc, zero-le}
use Rattle.std.proofs.lemmas.Bool.{cond-true, cond-false, cases_Bool, and_parts, not-true, false≢true}
use Rattle.std.proofs.lemmas.Cmp.{then_total, on_total, int_cmp_total, nat_cmp_total}
use Rattle.std.proofs.lemmas.List.Sorted.{sorted_far, ranks_by}
use Rattle.std.specs.Cmp.{IsStrictWeakOrder}
use Rattle.std.specs.List.Sorted.{ties, IsSortedBy, IsStableBy}
use Rattle.ix_life.specs.Order.{put, sorted_by, key, is_before}

clash : {P : Type 0} (b : Bool) → b ≡ true → b ≡ false → P
clash b e f = absurd (false≢true (sym f ∙ e))

kept : {X : Type 0} (p : X → Bool) (y : X) (ys : List X) → p y ≡ true → filter p (y ∷ ys) ≡ y ∷ filter p ys
kept p y ys h = cond-true _ _ _ h

dropped : {X : Type 0} (p : X → Bool) (y : X) (ys : List X) → p y ≡ false → filter p (y ∷ ys) ≡ filter p ys
dropped p y ys h = cond-false _ _ _ h

-- two tests that failed
both_fail : (a b : Bool) → a ≡ false → b ≡ false → not a && not b ≡ true
both_fail a b e f = rw e (rw f refl)

abbrev NoneBefore : {X : Type 0} → (X → X → Bool) → X → List X → Type 0
NoneBefore lt x [] = Unit {0}
NoneBefore lt x (y ∷ ys) = (lt y x ≡ false) × NoneBefore lt x ys

abbrev Rises : {X : Type 0} → (X → X → Bool) → List X → Type 0
Rises lt [] = Unit {0}
Rises lt (y ∷ ys) = NoneBefore lt y ys × Rises lt ys

NoneBefore-at : {X : Type 0} (lt : X → X → Bool) (x : X) (ys : List X) → ((j : ℕ) → j < length ys → lt (get_or ys j x) x ≡ false) →
    NoneBefore lt x ys
NoneBefore-at lt x [] h = tt
NoneBefore-at lt x (y ∷ ys) h = (h zero (suc-le-suc zero-le), NoneBefore-at lt x ys (λ j l. h (suc j) (suc-le-suc l)))

rises_far : {X : Type 0} (lt : X → X → Bool) (ys : List X) →
    ((i j : ℕ) (d : X) → i ≤ j → j < length ys → lt (get_or ys j d) (get_or ys i d) ≡ false) → Rises lt ys
rises_far lt [] h = tt
rises_far lt (y ∷ ys) h = (
  NoneBefore-at lt y ys (λ j l. h zero (suc j) y zero-le (suc-le-suc l)),
  rises_far lt ys (λ i j d le l. h (suc i) (suc j) d (suc-le-suc le) (suc-le-suc l)),
)

module _ {X : Type 0} (lt : X → X → Bool) (o : IsStrictWeakOrder lt) where
  same_place : (x : X) → lt x x ≡ false
  same_place x = elim (cases_Bool (lt x x)) [ inl earlier ↦ o.one_way x x earlier | inr later ↦ later ]

  tie : (x : X) → ties lt x x ≡ true
  tie x = both_fail (lt x x) (lt x x) (same_place x) (same_place x)

  tie_front : (x y : X) → ties lt x y ≡ true → lt x y ≡ false
  tie_front x y h = not-true _ (and_parts (not (lt x y)) (not (lt y x)) h).0

  tie_back : (x y : X) → ties lt x y ≡ true → lt y x ≡ false
  tie_back x y h = not-true _ (and_parts (not (lt x y)) (not (lt y x)) h).1

  NoneBefore-below : (x y : X) (ys : List X) → lt x y ≡ false → NoneBefore lt x ys → NoneBefore lt y ys
  NoneBefore-below x y [] l h = tt
  NoneBefore-below x y (z ∷ zs) l h = (o.chain z x y h.0 l, NoneBefore-below x y zs l h.1)

  NoneBefore-put : (x a : X) (ys : List X) → lt a x ≡ false → NoneBefore lt x ys → NoneBefore lt x (put lt a ys)
  NoneBefore-put x a [] l h = (l, tt)
  NoneBefore-put x a (y ∷ ys) l h =
      elim (cases_Bool (lt y a)) [
        | inl earlier ↦ rw earlier (h.0, NoneBefore-put x a ys l h.1)
        | inr later ↦ rw later (l, h)
      ]

  Rises-put : (a : X) (ys : List X) → Rises lt ys → Rises lt (put lt a ys)
  Rises-put a [] h = (tt, tt)
  Rises-put a (y ∷ ys) h =
      elim (cases_Bool (lt y a)) [
        | inl earlier ↦ rw earlier (NoneBefore-put y a ys (o.one_way y a earlier) h.0, Rises-put a ys h.1)
        | inr later ↦ rw later ((later, NoneBefore-below y a ys later h.0), h)
      ]

  pub rises_sorted_by : (xs : List X) → Rises lt (sorted_by lt xs)
  rises_sorted_by [] = tt
  rises_sorted_by (x ∷ xs) = Rises-put x (sorted_by lt xs) (rises_sorted_by xs)

  filter-put : (x a : X) (ys : List X) → filter (ties lt x) (put lt a ys) ≡ filter (ties lt x) (a ∷ ys)
  filter-put x a [] = refl
  filter-put x a (y ∷ ys) =
      let p = ties lt x in
      elim (cases_Bool (lt y a)) [
        | inr later ↦ rw later refl
        | inl earlier ↦
            ap (filter p) (cond-true (lt y a) (y ∷ put lt a ys) (a ∷ y ∷ ys) earlier)
            ∙ elim (cases_Bool (p y)) [
              | inr without ↦
                  dropped p y (put lt a ys) without ∙ filter-put x a ys ∙ ap (λ l. cond (p a) (a ∷ l) l) (sym (dropped p y ys without))
              | inl with ↦
                  elim (cases_Bool (p a)) [
                    | inl both ↦ clash (lt y a) earlier (o.chain y x a (tie_back x y with) (tie_front x a both))
                    | inr only ↦
                        kept p y (put lt a ys) with ∙ ap (λ l. y ∷ l) (filter-put x a ys ∙ dropped p a ys only)
                        ∙ sym (dropped p a (y ∷ ys) only ∙ kept p y ys with)
                  ]
            ]
      ]

  filter-sorted_by : (x : X) (xs : List X) → filter (ties lt x) (sorted_by lt xs) ≡ filter (ties lt x) xs
  filter-sorted_by x [] = refl
  filter-sorted_by x (y ∷ ys) = filter-put x y (sorted_by lt ys) ∙ ap (λ l. cond (ties lt x y) (y ∷ l) l) (filter-sorted_by x ys)

  -- one that ties with x stands among them
  found : (n x : X) (ys : List X) (w : X) (ws : List X) → NoneBefore lt n ys → filter (ties lt x) ys ≡ w ∷ ws → lt x n ≡ false
  found n x [] w ws h e = cc
  found n x (y ∷ ys) w ws h e =
      elim (cases_Bool (ties lt x y)) [
        | inl with ↦ o.chain x y n (tie_front x y with) h.0
        | inr without ↦ found n x ys w ws h.1 (sym (dropped (ties lt x) y ys without) ∙ e)
      ]

  same_list : (ys zs : List X) → Rises lt ys → Rises lt zs → ((x : X) → filter (ties lt x) ys ≡ filter (ties lt x) zs) → ys ≡ zs
  same_list [] [] left right same = refl
  same_list [] (z ∷ zs) left right same = let no = same z ∙ kept (ties lt z) z zs (tie z) in cc
  same_list (y ∷ ys) [] left right same = let no = sym (same y) ∙ kept (ties lt y) y ys (tie y) in cc
  same_list (y ∷ ys) (z ∷ zs) left right same =
      let at_y = kept (ties lt y) y ys (tie y) in
      let at_z = kept (ties lt z) z zs (tie z) in
      let up = found z y (z ∷ zs) y _ (same_place z, right.0) (sym (same y) ∙ at_y) in
      let down = found y z (y ∷ ys) z _ (same_place y, left.0) (same z ∙ at_z) in
      let heads = sym at_y ∙ same y ∙ kept (ties lt y) z zs (both_fail (lt y z) (lt z y) up down) in
      let head : y ≡ z = cc in
      let tails : (x : X) → filter (ties lt x) ys ≡ filter (ties lt x) zs =
      λ x. elim (cases_Bool (ties lt x y)) [
        | inl with ↦
            let both = sym (kept (ties lt x) y ys with) ∙ same x ∙ kept (ties lt x) z zs (ap (ties lt x) (sym head) ∙ with) in cc
        | inr without ↦
            sym (dropped (ties lt x) y ys without) ∙ same x ∙ dropped (ties lt x) z zs (ap (ties lt x) (sym head) ∙ without)
      ] in
      ap (λ w. w ∷ ys) head ∙ ap (λ l. z ∷ l) (same_list ys zs left.1 right.1 tails)

  -- what a stable sort ensures fixes the list
  pub sorted_by-from_sort : (xs ys : List X) → IsSortedBy lt ys → IsStableBy lt xs ys → ys ≡ sorted_by lt xs
  sorted_by-from_sort xs ys sorted stable =
      same_list ys (sorted_by lt xs) (rises_far lt ys (sorted_far lt o ys sorted)) (rises_sorted_by xs) (λ x. stable x
      ∙ sym (filter-sorted_by x xs))

-- the order of buckets compares any two of them
pub buckets_ranked : IsStrictWeakOrder is_before
buckets_ranked =
    let newest : ℤ × ℕ → ℤ = λ x. x.0 in
    let number : ℤ × ℕ → ℕ = λ x. x.1 in
    ranks_by (then_total (on_total newest int_cmp_total) (on_total number nat_cmp_total)) key
