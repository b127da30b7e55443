-- The names in a folder are in order, and are those that stand in it.
use Rattle.std.proofs.Common.{◌≡◌, ℕ, zero, suc, Bool, true, false, List, [], ◌∷◌, ◌++◌, length, take, drop, refl, sym, ◌∙◌, ap, subst}
use Rattle.std.proofs.Common.{arith, inl, inr}
use Rattle.std.specs.Prelude.{Option, Some, None, Any, Contains, ◌⊎◌, filter_map, if◌then◌else◌, unwrap_or}
use Rattle.std.specs.List.{AllByRecursion, cons_option}
use Rattle.std.specs.List.Sorted.{IsStrictlySortedBy}
use Rattle.std.specs.Option.{option_map}
use Rattle.std.specs.Str.{bytes_eq}
use Rattle.std.specs.declared.cmp.Ordering.{Ordering}
use Rattle.std.specs.declared.cmp.Ordering.TheVariants.{Less, Equal, Greater}
use Rattle.std.specs.Ordering.{nat_cmp, ordering_reverse}
use Rattle.std.specs.Cmp.Lexicographic.{slice_cmp, bytes_decides}
use Rattle.std.proofs.lemmas.Cmp.{nat_list_cmp_total}
use Rattle.std.proofs.lemmas.Map.Lookups.{exact_bytes}
use Rattle.std.proofs.lemmas.List.{take-append-drop}
use Rattle.std.proofs.Math.Seq.{take-append_seam, drop-append_seam}
use Rattle.ix_fs.specs.declared.trees.TreeFile.{TreeFile}
use Rattle.ix_fs.specs.Trees.{front_of, first_segment, name_in, beside, with_name, in_order, NamesInOrder}

abbrev IsBefore : List ℕ → List ℕ → Type 0
IsBefore a b = slice_cmp nat_cmp a b ≡ Less

some_inj : {X : Type 0} (x y : X) → Some x ≡ Some y → x ≡ y
some_inj x y e = ap (λ o. unwrap_or o x) e

none_some : {X : Type 0} (x : X) → None ≡ Some x → ⊥
none_some {X} x e = subst (λ (o : Option X). elim o as (λ _. Type 0) [ None ↦ Unit {0} | Some _ ↦ ⊥ ]) e tt

-- ---- in order

before-all : (a b : List ℕ) (names : List (List ℕ)) → IsBefore a b → AllByRecursion (IsBefore b) names → AllByRecursion (IsBefore a) names
before-all a b [] ab all = tt
before-all a b (c ∷ names) ab all = (nat_list_cmp_total.trans a b c ab all.0, before-all a b names ab all.1)

all-with : (P : List ℕ → Type 0) (name : List ℕ) (names : List (List ℕ)) → P name → AllByRecursion P names →
    AllByRecursion P (with_name name names)
all-with P name [] p all = (p, tt)
all-with P name (other ∷ others) p all = by (slice_cmp nat_cmp name other) (all-with P name others p all.1)
  where
    by : (o : Ordering) → AllByRecursion P (with_name name others) → AllByRecursion P (beside o name other others (with_name name others))
    by Less more = (p, all)
    by Equal more = all
    by Greater more = (all.0, more)

sorted-with : (name : List ℕ) (names : List (List ℕ)) → IsStrictlySortedBy (slice_cmp nat_cmp) names →
    IsStrictlySortedBy (slice_cmp nat_cmp) (with_name name names)
unfolding IsStrictlySortedBy
sorted-with name [] up = (tt, tt)
sorted-with name (other ∷ others) up = by (slice_cmp nat_cmp name other) refl (sorted-with name others up.1)
  where
    by : (o : Ordering) → slice_cmp nat_cmp name other ≡ o → IsStrictlySortedBy (slice_cmp nat_cmp) (with_name name others) →
        IsStrictlySortedBy (slice_cmp nat_cmp) (beside o name other others (with_name name others))
    by Less e more = ((e, before-all name other others e up.0), up)
    by Equal e more = up
    by Greater e more =
        let after : IsBefore other name = nat_list_cmp_total.antisymm other name ∙ ap ordering_reverse e in
        (all-with (IsBefore other) name others after up.0, more)

sorted-in : (names : List (List ℕ)) → IsStrictlySortedBy (slice_cmp nat_cmp) (in_order names)
unfolding IsStrictlySortedBy
sorted-in [] = tt
sorted-in (name ∷ names) = sorted-with name (in_order names) (sorted-in names)

-- ---- the same names

here : {X : Type 0} (x y : X) (xs : List X) → x ≡ y → Contains (x ∷ xs) y
here x y xs e = (0, omega arith, e)

there : {X : Type 0} (x y : X) (xs : List X) → Contains xs y → Contains (x ∷ xs) y
there x y xs h = (suc h.0, omega (arith, h.1), h.2)

split : {X : Type 0} (x y : X) (xs : List X) → Contains (x ∷ xs) y → (x ≡ y) ⊎ Contains xs y
split x y xs (zero, lt, e) = inl e
split x y xs (suc k, lt, e) = inr (k, omega (arith, lt), e)

with-to : (name y : List ℕ) (names : List (List ℕ)) → Contains (with_name name names) y → (name ≡ y) ⊎ Contains names y
with-to name y [] h = split name y [] h
with-to name y (other ∷ others) h = by (slice_cmp nat_cmp name other) h (with-to name y others)
  where
    later : (name ≡ y) ⊎ Contains others y → (name ≡ y) ⊎ Contains (other ∷ others) y
    later (inl e) = inl e
    later (inr k) = inr (there other y others k)

    more : (Contains (with_name name others) y → (name ≡ y) ⊎ Contains others y) → (other ≡ y) ⊎ Contains (with_name name others) y →
        (name ≡ y) ⊎ Contains (other ∷ others) y
    more f (inl e) = inr (here other y others e)
    more f (inr g) = later (f g)

    by : (o : Ordering) → Contains (beside o name other others (with_name name others)) y →
        (Contains (with_name name others) y → (name ≡ y) ⊎ Contains others y) → (name ≡ y) ⊎ Contains (other ∷ others) y
    by Less g f = split name y (other ∷ others) g
    by Equal g f = inr g
    by Greater g f = more f (split other y (with_name name others) g)

with-name : (name : List ℕ) (names : List (List ℕ)) → Contains (with_name name names) name
with-name name [] = here name name [] refl
with-name name (other ∷ others) = by (slice_cmp nat_cmp name other) refl (with-name name others)
  where
    by : (o : Ordering) → slice_cmp nat_cmp name other ≡ o → Contains (with_name name others) name →
        Contains (beside o name other others (with_name name others)) name
    by Less e more = here name name (other ∷ others) refl
    by Equal e more = here other name others (sym (exact_bytes name other e))
    by Greater e more = there other name (with_name name others) more

with-others : (name y : List ℕ) (names : List (List ℕ)) → Contains names y → Contains (with_name name names) y
with-others name y [] h = absurd (omega (arith, h.1))
with-others name y (other ∷ others) h = by (slice_cmp nat_cmp name other) (with-others name y others)
  where
    more : (Contains others y → Contains (with_name name others) y) → (other ≡ y) ⊎ Contains others y →
        Contains (other ∷ with_name name others) y
    more f (inl e) = here other y (with_name name others) e
    more f (inr g) = there other y (with_name name others) (f g)

    by : (o : Ordering) → (Contains others y → Contains (with_name name others) y) →
        Contains (beside o name other others (with_name name others)) y
    by Less f = there name y (other ∷ others) h
    by Equal f = h
    by Greater f = more f (split other y others h)

in-to : (y : List ℕ) (names : List (List ℕ)) → Contains (in_order names) y → Contains names y
in-to y [] h = h
in-to y (name ∷ names) h =
    elim (with-to name y (in_order names) h) [ inl e ↦ here name y names e | inr k ↦ there name y names (in-to y names k) ]

in-from : (y : List ℕ) (names : List (List ℕ)) → Contains names y → Contains (in_order names) y
in-from y [] h = h
in-from y (name ∷ names) h =
    elim (split name y names h) [
      | inl e ↦ subst (λ (z : List ℕ). Contains (in_order (name ∷ names)) z) e (with-name name (in_order names))
      | inr k ↦ with-others name y (in_order names) (in-from y names k)
    ]

-- ---- the names that stand in a folder

any-here : {X : Type 0} {P : X → Type 0} (x : X) (xs : List X) → P x → Any P (x ∷ xs)
any-here x xs p = (0, x, omega arith, refl, p)

any-there : {X : Type 0} {P : X → Type 0} (x : X) (xs : List X) → Any P xs → Any P (x ∷ xs)
any-there x xs h = (suc h.0, h.1, omega (arith, h.2), h.3, h.4)

any-split : {X : Type 0} (P : X → Type 0) (x : X) (xs : List X) → Any P (x ∷ xs) → P x ⊎ Any P xs
any-split P x xs (zero, y, lt, e, p) = inl (subst P (sym e) p)
any-split P x xs (suc k, y, lt, e, p) = inr (k, y, omega (arith, lt), e, p)

filter-to : {X Y : Type 0} (h : X → Option Y) (y : Y) (xs : List X) → Contains (filter_map h xs) y → Any (λ x. h x ≡ Some y) xs
filter-to {X} {Y} h y [] (k, lt, e) = absurd (omega (arith, lt))
filter-to {X} {Y} h y (x ∷ xs) c = by (h x) refl c (filter-to h y xs)
  where
    by : (o : Option Y) → h x ≡ o → Contains (cons_option o (filter_map h xs)) y →
        (Contains (filter_map h xs) y → Any (λ x. h x ≡ Some y) xs) → Any (λ x. h x ≡ Some y) (x ∷ xs)
    by None e g f = any-there x xs (f g)
    by (Some z) e g f =
        elim (split z y (filter_map h xs) g) [ inl same ↦ any-here x xs (e ∙ ap Some same) | inr k ↦ any-there x xs (f k) ]

filter-from : {X Y : Type 0} (h : X → Option Y) (y : Y) (xs : List X) → Any (λ x. h x ≡ Some y) xs → Contains (filter_map h xs) y
filter-from {X} {Y} h y [] (k, x, lt, e, p) = absurd (omega (arith, lt))
filter-from {X} {Y} h y (x ∷ xs) a = elim (any-split (λ x. h x ≡ Some y) x xs a)
    [ inl e ↦ first (h x) e | inr k ↦ more (h x) (filter-from h y xs k) ]
  where
    first : (o : Option Y) → o ≡ Some y → Contains (cons_option o (filter_map h xs)) y
    first o e = subst (λ (o : Option Y). Contains (cons_option o (filter_map h xs)) y) (sym e) (here y y (filter_map h xs) refl)

    more : (o : Option Y) → Contains (filter_map h xs) y → Contains (cons_option o (filter_map h xs)) y
    more None k = k
    more (Some z) k = there z y (filter_map h xs) k

-- the name that a file below the folder has in it
abbrev Named : List ℕ → List ℕ → TreeFile → Type 0
Named front name file = (rest : List ℕ) × (file.path ≡ front ++ rest) × (first_segment rest ≡ name)

named-to : (front name : List ℕ) (file : TreeFile) → name_in front file ≡ Some name → Named front name file
named-to front name file e = by (bytes_eq (take (length front) file.path) front) refl e
  where
    by : (b : Bool) → bytes_eq (take (length front) file.path) front ≡ b →
        option_map first_segment (if b then Some (drop (length front) file.path) else None) ≡ Some name → Named front name file
    by true is g =
        let same : take (length front) file.path ≡ front = (bytes_decides (take (length front) file.path) front).0 is in (
          drop (length front) file.path,
          sym (take-append-drop (length front) file.path) ∙ ap (λ l. l ++ drop (length front) file.path) same,
          some_inj (first_segment (drop (length front) file.path)) name g,
        )
    by false is g = absurd (none_some name g)

named-from : (front name : List ℕ) (file : TreeFile) → Named front name file → name_in front file ≡ Some name
named-from front name file (rest, is, e) =
    let same : bytes_eq (take (length front) file.path) front ≡ true =
    (bytes_decides (take (length front) file.path) front).1 (ap (λ l. take (length front) l) is ∙ take-append_seam front rest) in
    let cut : drop (length front) file.path ≡ rest = ap (λ l. drop (length front) l) is ∙ drop-append_seam front rest in
    rw same (rw cut (ap Some e))

any-map : {X : Type 0} {P Q : X → Type 0} (xs : List X) → ((x : X) → P x → Q x) → Any P xs → Any Q xs
any-map xs f a = (a.0, a.1, a.2, a.3, f a.1 a.4)

pub names-in-order : NamesInOrder
names-in-order files folder =
    let front : List ℕ = front_of folder in
    record {
      ascending = sorted-in (filter_map (name_in front) files);
      exact = λ name. (
        λ c. any-map files (named-to front name) (filter-to (name_in front) name files (in-to name (filter_map (name_in front) files) c)),
        λ s. in-from name (filter_map (name_in front) files)
            (filter-from (name_in front) name files (any-map files (named-from front name) s)),
      );
    }
