-- Lists of things that stand by their names.
use Rattle.std.proofs.Common.{◌≡◌, ℕ, true, false, List, [], ◌∷◌, map, refl, sym, ap, ◌∙◌, subst}
use Rattle.std.specs.Prelude.{Some, None, bytes_eq}
use Rattle.std.specs.List.{AllByRecursion}
use Rattle.std.specs.Option.{option_map}
use Rattle.std.specs.declared.cmp.Ordering.TheVariants.{Less}
use Rattle.std.specs.Ordering.{nat_cmp, is_eq}
use Rattle.std.specs.Cmp.Lexicographic.{slice_cmp}
use Rattle.std.proofs.lemmas.Cmp.{nat_list_cmp_total}
use Rattle.std.proofs.lemmas.Map.Text.{is_eq-slice_cmp}
use Rattle.ix_catalog.specs.Lists.{find, change, AreAscending}
use Rattle.ix_model.proofs.Named.{by_test, same_bytes, bytes_same, all_found}

true_false : true ≡ false → ⊥
true_false e = cc

none_some : {X : Type 0} {x : X} → None ≡ Some x → ⊥
none_some e = cc

some_same : {X : Type 0} {x y : X} → Some x ≡ Some y → x ≡ y
some_same e = cc

abbrev Before : {X : Type 0} → (X → List ℕ) → X → X → Type 0
Before name_of x y = slice_cmp nat_cmp (name_of x) (name_of y) ≡ Less

pub less_other : (a b : List ℕ) → slice_cmp nat_cmp a b ≡ Less → bytes_eq a b ≡ false
less_other a b e = sym (is_eq-slice_cmp a b) ∙ ap is_eq e

-- ---- two lists are the same where each name finds the same in both

pub found_first : {X : Type 0} (name_of : X → List ℕ) (x : X) (xs : List X) → find name_of (name_of x) (x ∷ xs) ≡ Some x
found_first name_of x xs = rw (bytes_same (name_of x) (name_of x) refl) refl

-- what stands behind a name has another
pub none_behind : {X : Type 0} (name_of : X → List ℕ) (x : X) (name : List ℕ) (xs : List X) → AllByRecursion (Before name_of x) xs →
    bytes_eq (name_of x) name ≡ true → find name_of name xs ≡ None
none_behind name_of x name [] h t = refl
none_behind name_of x name (y ∷ ys) h t =
    by_test (bytes_eq (name_of y) name)
    (λ u. absurd (true_false (sym (bytes_same (name_of x) (name_of y) (same_bytes (name_of x) name t ∙ sym (same_bytes (name_of y) name u)))
    ∙ less_other (name_of x) (name_of y) h.0)))
    (λ u. rw u (none_behind name_of x name ys h.1 t))

found_behind : {X : Type 0} (name_of : X → List ℕ) (x y : X) (ys : List X) → AllByRecursion (Before name_of y) ys →
    bytes_eq (name_of y) (name_of x) ≡ false → find name_of (name_of x) (y ∷ ys) ≡ Some x → Before name_of y x
found_behind name_of x y ys h t e = all_found (Before name_of y) name_of (name_of x) x ys h (rw t at e)

not_before_itself : (a b : List ℕ) → slice_cmp nat_cmp a b ≡ Less → slice_cmp nat_cmp b a ≡ Less → ⊥
not_before_itself a b h k =
    true_false (sym (bytes_same a a refl) ∙ less_other a a (nat_list_cmp_total.trans a b a h k))

other_way : (a b : List ℕ) → bytes_eq a b ≡ false → bytes_eq b a ≡ false
other_way a b t = by_test (bytes_eq b a)
    (λ u. absurd (true_false (sym (bytes_same a b (sym (same_bytes b a u))) ∙ t)))
    (λ u. u)

same_first : {X : Type 0} (name_of : X → List ℕ) (x y : X) (xs ys : List X) → AllByRecursion (Before name_of x) xs →
    AllByRecursion (Before name_of y) ys →
    ((name : List ℕ) → find name_of name (x ∷ xs) ≡ find name_of name (y ∷ ys)) → x ≡ y
same_first name_of x y xs ys a b h =
    by_test (bytes_eq (name_of y) (name_of x))
    (λ t. some_same (sym (found_first name_of x xs) ∙ h (name_of x) ∙ rw t refl))
    (λ t. absurd (not_before_itself (name_of y) (name_of x)
    (found_behind name_of x y ys b t (sym (h (name_of x)) ∙ found_first name_of x xs))
    (found_behind name_of y x xs a (other_way (name_of y) (name_of x) t) (h (name_of y) ∙ found_first name_of y ys))))

same_rest : {X : Type 0} (name_of : X → List ℕ) (x : X) (xs ys : List X) → AllByRecursion (Before name_of x) xs →
    AllByRecursion (Before name_of x) ys →
    ((name : List ℕ) → find name_of name (x ∷ xs) ≡ find name_of name (x ∷ ys)) → (name : List ℕ) →
    find name_of name xs ≡ find name_of name ys
same_rest name_of x xs ys a b h name =
    by_test (bytes_eq (name_of x) name)
    (λ t. none_behind name_of x name xs a t ∙ sym (none_behind name_of x name ys b t))
    (λ t. rw t at (h name))

pub same_lists : {X : Type 0} (name_of : X → List ℕ) (xs ys : List X) → AreAscending name_of xs → AreAscending name_of ys →
    ((name : List ℕ) → find name_of name xs ≡ find name_of name ys) → xs ≡ ys
same_lists name_of [] [] a b h = refl
same_lists name_of [] (y ∷ ys) a b h = absurd (none_some (h (name_of y) ∙ found_first name_of y ys))
same_lists name_of (x ∷ xs) [] a b h = absurd (none_some (sym (h (name_of x)) ∙ found_first name_of x xs))
same_lists {X = X} name_of (x ∷ xs) (y ∷ ys) a b h =
    let e : x ≡ y = same_first name_of x y xs ys a.0 b.0 h in
    let behind : AllByRecursion (Before name_of x) ys = subst (λ (z : X). AllByRecursion (Before name_of z) ys) (sym e) b.0 in
    let both : (name : List ℕ) → find name_of name (x ∷ xs) ≡ find name_of name (x ∷ ys) =
    (λ name. h name ∙ ap (λ (z : X). find name_of name (z ∷ ys)) (sym e)) in
    ap (λ (zs : List X). x ∷ zs) (same_lists name_of xs ys a.1 b.1 (same_rest name_of x xs ys a.0 behind both)) ∙ ap (λ (z : X). z ∷ ys) e

-- ---- lists side by side

pub find_map : {X Y : Type 0} (name_of : X → List ℕ) (seen_name : Y → List ℕ) (v : X → Y) → ((x : X) → seen_name (v x) ≡ name_of x) →
    (name : List ℕ) (xs : List X) →
    find seen_name name (map v xs) ≡ option_map v (find name_of name xs)
find_map name_of seen_name v k name [] = refl
find_map name_of seen_name v k name (x ∷ xs) =
    by_test (bytes_eq (name_of x) name)
    (λ t. rw (k x, t) refl)
    (λ t. rw (k x, t) (find_map name_of seen_name v k name xs))

pub change_map : {X Y : Type 0} (name_of : X → List ℕ) (seen_name : Y → List ℕ) (v : X → Y) → ((x : X) → seen_name (v x) ≡ name_of x) →
    (f : X → X) (g : Y → Y) (name : List ℕ) (xs : List X) → ((x : X) → find name_of name xs ≡ Some x → g (v x) ≡ v (f x)) →
    change seen_name name g (map v xs) ≡ map v (change name_of name f xs)
change_map name_of seen_name v k f g name [] h = refl
change_map {Y = Y} name_of seen_name v k f g name (x ∷ xs) h =
    by_test (bytes_eq (name_of x) name)
    (λ t. rw (k x, t) (ap (λ (z : Y). z ∷ map v xs) (h x (rw t refl))))
    (λ t. rw (k x, t) (ap (λ (zs : List Y). v x ∷ zs) (change_map name_of seen_name v k f g name xs (λ y e. h y (rw t e)))))

pub found_name : {X : Type 0} (name_of : X → List ℕ) (name : List ℕ) (y : X) (xs : List X) → find name_of name xs ≡ Some y →
    name_of y ≡ name
found_name name_of name y [] e = absurd (none_some e)
found_name {X = X} name_of name y (x ∷ xs) e =
    by_test (bytes_eq (name_of x) name)
    (λ t. ap name_of (sym (first (rw t at e))) ∙ same_bytes (name_of x) name t)
    (λ t. found_name name_of name y xs (rw t at e))
  where
    first : Some x ≡ Some y → x ≡ y
    first h = cc
