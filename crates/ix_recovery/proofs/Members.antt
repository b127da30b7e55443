-- What is in lists, and what holds of each of it.
use Rattle.std.proofs.Common.{◌≡◌, ℕ, zero, suc, List, [], ◌∷◌, ◌++◌, map, refl, sym, ap, inl, inr, subst}
use Rattle.std.specs.Prelude.{Some, None, slice_get, bytes_eq}
use Rattle.std.specs.List.{AllByRecursion, flat_map}
use Rattle.std.specs.declared.cmp.Ordering.TheVariants.{Less}
use Rattle.std.specs.Ordering.{nat_cmp}
use Rattle.std.specs.Cmp.Lexicographic.{slice_cmp}
use Rattle.ix_model.proofs.Named.{by_test, bytes_same}
use Rattle.ix_catalog.specs.Lists.{find, AreAscending}
use Rattle.ix_model.proofs.Names.{less_other}
use Rattle.ix_recovery.specs.Among.{IsAmong}

none_some : {X : Type 0} {x : X} → None ≡ Some x → ⊥
none_some e = cc

some_same : {X : Type 0} {x y : X} → Some x ≡ Some y → x ≡ y
some_same e = cc

-- ---- in a list

pub among_front : {X : Type 0} (x : X) (a b : List X) → IsAmong x a → IsAmong x (a ++ b)
among_front x [] b h = absurd h
among_front x (y ∷ a) b (inl e) = inl e
among_front x (y ∷ a) b (inr h) = inr (among_front x a b h)

pub among_behind : {X : Type 0} (x : X) (a b : List X) → IsAmong x b → IsAmong x (a ++ b)
among_behind x [] b h = h
among_behind x (y ∷ a) b h = inr (among_behind x a b h)

pub among_map : {X Y : Type 0} (f : X → Y) (x : X) (xs : List X) → IsAmong x xs → IsAmong (f x) (map f xs)
among_map f x [] h = absurd h
among_map f x (y ∷ xs) (inl e) = inl (ap f e)
among_map f x (y ∷ xs) (inr h) = inr (among_map f x xs h)

pub among_flat : {X Y : Type 0} (f : X → List Y) (x : X) (y : Y) (xs : List X) → IsAmong x xs → IsAmong y (f x) → IsAmong y (flat_map f xs)
among_flat f x y [] h k = absurd h
among_flat f x y (z ∷ xs) (inl e) k = among_front y (f z) (flat_map f xs) (subst (λ w. IsAmong y (f w)) (sym e) k)
among_flat f x y (z ∷ xs) (inr h) k = among_behind y (f z) (flat_map f xs) (among_flat f x y xs h k)

pub among_got : {X : Type 0} (x : X) (n : ℕ) (xs : List X) → slice_get xs n ≡ Some x → IsAmong x xs
among_got x n [] e = absurd (none_some e)
among_got x zero (y ∷ xs) e = inl (some_same e)
among_got x (suc n) (y ∷ xs) e = inr (among_got x n xs e)

pub among_found : {X : Type 0} (name_of : X → List ℕ) (name : List ℕ) (x : X) (xs : List X) → find name_of name xs ≡ Some x → IsAmong x xs
among_found name_of name x [] e = absurd (none_some e)
among_found name_of name x (y ∷ xs) e = by_test (bytes_eq (name_of y) name)
    (λ t. inl (some_same (rw t at e)))
    (λ t. inr (among_found name_of name x xs (rw t at e)))

-- ---- of each

pub all_among : {X : Type 0} (P : X → Type 0) (x : X) (xs : List X) → AllByRecursion P xs → IsAmong x xs → P x
all_among P x [] h k = absurd k
all_among P x (y ∷ xs) h (inl e) = subst P e h.0
all_among P x (y ∷ xs) h (inr k) = all_among P x xs h.1 k

pub all_from : {X : Type 0} (P Q : X → Type 0) (xs : List X) → ((x : X) → Q x → P x) → AllByRecursion Q xs → AllByRecursion P xs
all_from P Q [] k h = tt
all_from P Q (x ∷ xs) k h = (k x h.0, all_from P Q xs k h.1)

pub every : {X : Type 0} (P : X → Type 0) (xs : List X) → ((x : X) → P x) → AllByRecursion P xs
every P [] k = tt
every P (x ∷ xs) k = (k x, every P xs k)

pub every_among : {X : Type 0} (P : X → Type 0) (xs : List X) → ((x : X) → IsAmong x xs → P x) → AllByRecursion P xs
every_among P [] k = tt
every_among P (x ∷ xs) k = (k x (inl refl), every_among P xs (λ y h. k y (inr h)))

pub all_append : {X : Type 0} (P : X → Type 0) (a b : List X) → AllByRecursion P a → AllByRecursion P b → AllByRecursion P (a ++ b)
all_append P [] b f g = g
all_append P (x ∷ a) b f g = (f.0, all_append P a b f.1 g)

pub all_front : {X : Type 0} (P : X → Type 0) (a b : List X) → AllByRecursion P (a ++ b) → AllByRecursion P a
all_front P [] b h = tt
all_front P (x ∷ a) b h = (h.0, all_front P a b h.1)

pub all_behind : {X : Type 0} (P : X → Type 0) (a b : List X) → AllByRecursion P (a ++ b) → AllByRecursion P b
all_behind P [] b h = h
all_behind P (x ∷ a) b h = all_behind P a b h.1

pub all_map : {X Y : Type 0} (P : Y → Type 0) (f : X → Y) (xs : List X) → AllByRecursion (λ (x : X). P (f x)) xs →
    AllByRecursion P (map f xs)
all_map P f [] h = tt
all_map P f (x ∷ xs) h = (h.0, all_map P f xs h.1)

pub all_mapped : {X Y : Type 0} (P : Y → Type 0) (f : X → Y) (xs : List X) → AllByRecursion P (map f xs) →
    AllByRecursion (λ (x : X). P (f x)) xs
all_mapped P f [] h = tt
all_mapped P f (x ∷ xs) h = (h.0, all_mapped P f xs h.1)

pub all_flat : {X Y : Type 0} (P : Y → Type 0) (f : X → List Y) (xs : List X) → AllByRecursion (λ (x : X). AllByRecursion P (f x)) xs →
    AllByRecursion P (flat_map f xs)
all_flat P f [] h = tt
all_flat P f (x ∷ xs) h = all_append P (f x) (flat_map f xs) h.0 (all_flat P f xs h.1)

pub all_flattened : {X Y : Type 0} (P : Y → Type 0) (f : X → List Y) (xs : List X) → AllByRecursion P (flat_map f xs) →
    AllByRecursion (λ (x : X). AllByRecursion P (f x)) xs
all_flattened P f [] h = tt
all_flattened P f (x ∷ xs) h = (all_front P (f x) (flat_map f xs) h, all_flattened P f xs (all_behind P (f x) (flat_map f xs) h))

-- ---- things that stand by their names

found_behind : {X : Type 0} (name_of : X → List ℕ) (x : X) (xs ys : List X) →
    AllByRecursion (λ (y : X). slice_cmp nat_cmp (name_of x) (name_of y) ≡ Less) ys →
    AllByRecursion (λ (y : X). find name_of (name_of y) xs ≡ Some y) ys →
    AllByRecursion (λ (y : X). find name_of (name_of y) (x ∷ xs) ≡ Some y) ys
found_behind name_of x xs [] a f = tt
found_behind name_of x xs (y ∷ ys) a f = (rw (less_other (name_of x) (name_of y) a.0) f.0, found_behind name_of x xs ys a.1 f.1)

-- each is found under its name
pub found_each : {X : Type 0} (name_of : X → List ℕ) (xs : List X) → AreAscending name_of xs →
    AllByRecursion (λ (y : X). find name_of (name_of y) xs ≡ Some y) xs
found_each name_of [] h = tt
found_each name_of (x ∷ xs) h =
    (rw (bytes_same (name_of x) (name_of x) refl) refl, found_behind name_of x xs xs h.0 (found_each name_of xs h.1))
