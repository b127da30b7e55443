-- Words on lists: what holds of each element.
use Rattle.std.proofs.Common.{◌≡◌, ◌<◌, ◌≤◌, ℕ, ◌+◌, Bool, List, [], ◌∷◌, ◌++◌, map, length, arith, length-append}
use Rattle.std.specs.Prelude.{filter}
use Rattle.std.specs.List.{AllByRecursion, flat_map, sum_by}
use Rattle.std.proofs.lemmas.List.Sums.{sum_by-cons}
use Rattle.ix_model.proofs.Named.{by_test}

pub all_from : {X : Type 0} (P Q : X → Type 0) → ((x : X) → P x → Q x) → (xs : List X) → AllByRecursion P xs → AllByRecursion Q xs
all_from P Q f [] h = tt
all_from P Q f (x ∷ xs) h = (f x h.0, all_from P Q f xs h.1)

pub all_two : {X : Type 0} (P Q R : X → Type 0) → ((x : X) → P x → Q x → R x) → (xs : List X) → AllByRecursion P xs → AllByRecursion Q xs →
    AllByRecursion R xs
all_two P Q R f [] h k = tt
all_two P Q R f (x ∷ xs) h k = (f x h.0 k.0, all_two P Q R f xs h.1 k.1)

pub all_front : {X : Type 0} (P : X → Type 0) (xs ys : List X) → AllByRecursion P (xs ++ ys) → AllByRecursion P xs
all_front P [] ys h = tt
all_front P (x ∷ xs) ys h = (h.0, all_front P xs ys h.1)

pub all_rest : {X : Type 0} (P : X → Type 0) (xs ys : List X) → AllByRecursion P (xs ++ ys) → AllByRecursion P ys
all_rest P [] ys h = h
all_rest P (x ∷ xs) ys h = all_rest P xs ys h.1

pub all_append : {X : Type 0} (P : X → Type 0) (xs ys : List X) → AllByRecursion P xs → AllByRecursion P ys → AllByRecursion P (xs ++ ys)
all_append P [] ys h k = k
all_append P (x ∷ xs) ys h k = (h.0, all_append P xs ys h.1 k)

pub all_map : {X Y : Type 0} (P : Y → Type 0) (f : X → Y) (xs : List X) → AllByRecursion (λ (x : X). P (f x)) xs →
    AllByRecursion P (map f xs)
all_map P f [] h = tt
all_map P f (x ∷ xs) h = (h.0, all_map P f xs h.1)

pub all_mapped : {X Y : Type 0} (P : Y → Type 0) (f : X → Y) (xs : List X) → AllByRecursion P (map f xs) →
    AllByRecursion (λ (x : X). P (f x)) xs
all_mapped P f [] h = tt
all_mapped P f (x ∷ xs) h = (h.0, all_mapped P f xs h.1)

pub all_flat : {X Y : Type 0} (P : Y → Type 0) (f : X → List Y) (xs : List X) → AllByRecursion (λ (x : X). AllByRecursion P (f x)) xs →
    AllByRecursion P (flat_map f xs)
all_flat P f [] h = tt
all_flat P f (x ∷ xs) h = all_append P (f x) (flat_map f xs) h.0 (all_flat P f xs h.1)

pub all_filter : {X : Type 0} (P : X → Type 0) (p : X → Bool) (xs : List X) → AllByRecursion P xs → AllByRecursion P (filter p xs)
all_filter P p [] h = tt
all_filter P p (x ∷ xs) h = by_test (p x) (λ t. rw t (h.0, all_filter P p xs h.1)) (λ t. rw t (all_filter P p xs h.1))

-- what a sum stays below, each part does
pub each_below : {X : Type 0} (f : X → ℕ) (n : ℕ) (xs : List X) → sum_by f xs < n → AllByRecursion (λ (x : X). f x < n) xs
each_below f n [] h = tt
each_below f n (x ∷ xs) h =
    let s = sum_by-cons f x xs in
    (omega (arith, s, h), each_below f n xs (omega (arith, s, h)))

pub each_none : {X : Type 0} (f : X → ℕ) (xs : List X) → sum_by f xs ≡ 0 → AllByRecursion (λ (x : X). f x ≡ 0) xs
each_none f [] h = tt
each_none f (x ∷ xs) h =
    let s = sum_by-cons f x xs in
    (omega (arith, s, h), each_none f xs (omega (arith, s, h)))

pub none_each : {X : Type 0} (f : X → ℕ) (xs : List X) → AllByRecursion (λ (x : X). f x ≡ 0) xs → sum_by f xs ≡ 0
none_each f [] h = omega arith
none_each f (x ∷ xs) h =
    let s = sum_by-cons f x xs in
    let r = none_each f xs h.1 in
    let a = h.0 in
    omega (arith, s, r, a)

-- what all bytes together stay below, those of each part do
pub each_short : {X Y : Type 0} (f : X → List Y) (n : ℕ) (xs : List X) → length (flat_map f xs) < n →
    AllByRecursion (λ (x : X). length (f x) < n) xs
each_short f n [] h = tt
each_short f n (x ∷ xs) h =
    let s = length-append (f x) (flat_map f xs) in
    (omega (arith, s, h), each_short f n xs (omega (arith, s, h)))

pub sum_most : {X : Type 0} (f g : X → ℕ) → ((x : X) → f x ≤ g x) → (xs : List X) → sum_by f xs ≤ sum_by g xs
sum_most f g h [] = omega arith
sum_most f g h (x ∷ xs) =
    let s = sum_by-cons f x xs in
    let t = sum_by-cons g x xs in
    let r = sum_most f g h xs in
    let a = h x in
    omega (arith, s, t, r, a)
