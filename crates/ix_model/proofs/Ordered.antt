-- Things that stand by their names are told by what is found under each.
use Rattle.std.proofs.Common.{◌≡◌, ℕ, Bool, true, false, List, [], ◌∷◌, refl, sym, ap, ◌∙◌, subst, Ordering}
use Rattle.std.specs.Prelude.{Option, Some, None, if◌then◌else◌, bytes_eq}
use Rattle.std.specs.List.{AllByRecursion}
use Rattle.std.specs.declared.cmp.Ordering.TheVariants.{Less}
use Rattle.std.specs.Ordering.{nat_cmp, is_lt, ordering_reverse}
use Rattle.std.specs.Cmp.Lexicographic.{slice_cmp}
use Rattle.std.proofs.lemmas.Cmp.{nat_list_cmp_total}
use Rattle.ix_catalog.specs.Lists.{find, AreAscending}
use Rattle.ix_model.proofs.Ascending.{less_other}
use Rattle.ix_model.proofs.Named.{by_test, same_bytes, bytes_same, all_found}

none_some : {X : Type 0} {x : X} → None ≡ Some x → ⊥
none_some e = cc

some_same : {X : Type 0} (x y : X) → Some x ≡ Some y → x ≡ y
some_same x y e = cc

true_false : true ≡ false → ⊥
true_false e = cc

abbrev cmp : List ℕ → List ℕ → Ordering
cmp a b = slice_cmp nat_cmp a b

-- of two names not both stand before the other
not_both : (a b : List ℕ) → cmp a b ≡ Less → cmp b a ≡ Less → ⊥
not_both a b e f = true_false (sym (ap is_lt e) ∙ ap is_lt (nat_list_cmp_total.antisymm a b ∙ ap ordering_reverse f))

-- none of this name stands behind one of it
none_behind : {X : Type 0} (name_of : X → List ℕ) (name : List ℕ) (xs : List X) → AllByRecursion (λ y. cmp name (name_of y) ≡ Less) xs →
    find name_of name xs ≡ None
none_behind name_of name [] h = refl
none_behind name_of name (x ∷ xs) h =
    by_test (bytes_eq (name_of x) name)
    (λ t. absurd (true_false (sym (bytes_same name (name_of x) (sym (same_bytes (name_of x) name t))) ∙ less_other name (name_of x) h.0)))
    (λ t. rw t (none_behind name_of name xs h.1))

found_first : {X : Type 0} (name_of : X → List ℕ) (x : X) (xs : List X) → find name_of (name_of x) (x ∷ xs) ≡ Some x
found_first name_of x xs = let t : bytes_eq (name_of x) (name_of x) ≡ true = bytes_same (name_of x) (name_of x) refl in rw t refl

-- the first ones are the same
firsts : {X : Type 0} (name_of : X → List ℕ) (x y : X) (xs ys : List X) → AreAscending name_of (x ∷ xs) → AreAscending name_of (y ∷ ys) →
    ((name : List ℕ) → find name_of name (x ∷ xs) ≡ find name_of name (y ∷ ys)) → x ≡ y
firsts {X} name_of x y xs ys g h k =
    by_test (bytes_eq (name_of y) (name_of x))
    (λ t. let e : Some x ≡ find name_of (name_of x) (y ∷ ys) = sym (found_first name_of x xs) ∙ k (name_of x) in some_same x y (rw t at e))
    (λ t. by_test (bytes_eq (name_of x) (name_of y))
    (λ u. absurd (true_false (sym (bytes_same (name_of y) (name_of x) (sym (same_bytes (name_of x) (name_of y) u))) ∙ t)))
    (λ u. absurd (not_both (name_of y) (name_of x) (behind t) (before u))))
  where
    behind : bytes_eq (name_of y) (name_of x) ≡ false → cmp (name_of y) (name_of x) ≡ Less
    behind t =
        let e : find name_of (name_of x) (y ∷ ys) ≡ Some x = sym (k (name_of x)) ∙ found_first name_of x xs in
        all_found (λ z. cmp (name_of y) (name_of z) ≡ Less) name_of (name_of x) x ys h.0 (rw t at e)

    before : bytes_eq (name_of x) (name_of y) ≡ false → cmp (name_of x) (name_of y) ≡ Less
    before t =
        let e : find name_of (name_of y) (x ∷ xs) ≡ Some y = k (name_of y) ∙ found_first name_of y ys in
        all_found (λ z. cmp (name_of x) (name_of z) ≡ Less) name_of (name_of y) y xs g.0 (rw t at e)

-- two lists of such things are one where the same is found under each name
pub told_by_names : {X : Type 0} (name_of : X → List ℕ) (xs ys : List X) → AreAscending name_of xs → AreAscending name_of ys →
    ((name : List ℕ) → find name_of name xs ≡ find name_of name ys) → xs ≡ ys
told_by_names name_of [] [] g h k = refl
told_by_names name_of [] (y ∷ ys) g h k = absurd (none_some (k (name_of y) ∙ found_first name_of y ys))
told_by_names name_of (x ∷ xs) [] g h k = absurd (none_some (sym (k (name_of x)) ∙ found_first name_of x xs))
told_by_names {X} name_of (x ∷ xs) (y ∷ ys) g h k =
    let e : x ≡ y = firsts name_of x y xs ys g h k in
    (λ i. e i ∷ told_by_names name_of xs ys g.1 h.1 (rest e) i)
  where
    rest : x ≡ y → (name : List ℕ) → find name_of name xs ≡ find name_of name ys
    rest e name =
        by_test (bytes_eq (name_of x) name)
        (λ t. let is : name_of x ≡ name = same_bytes (name_of x) name t in
        none_behind name_of name xs (subst (λ (n : List ℕ). AllByRecursion (λ z. cmp n (name_of z) ≡ Less) xs) is g.0)
        ∙ sym (none_behind name_of name ys (subst (λ (n : List ℕ). AllByRecursion (λ z. cmp n (name_of z) ≡ Less) ys) (sym (ap name_of e)
        ∙ is) h.0)))
        (λ t. let u : bytes_eq (name_of y) name ≡ false = subst (λ (z : X). bytes_eq (name_of z) name ≡ false) e t in
        let f : find name_of name (x ∷ xs) ≡ find name_of name (y ∷ ys) = k name in rw u at (rw t at f))
