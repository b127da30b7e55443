-- Sums over lists that are made of others.
use Rattle.std.proofs.Common.{◌≡◌, ◌≤◌, ℕ, ◌+◌, List, [], ◌∷◌, map, refl, ◌∙◌, arith}
use Rattle.std.specs.Prelude.{fold, unwrap_or}
use Rattle.std.specs.List.{AllByRecursion, sum_by, flat_map}
use Rattle.std.proofs.lemmas.List.Sums.{sum_by-cons, sum_by-append}
use Rattle.ix_model.specs.Buckets.{Index}
use Rattle.ix_model.specs.Shown.{with_fresh}
use Rattle.ix_model.specs.State.{index_name, fresh_index}
use Rattle.ix_model.proofs.Named.{sum_change_or_insert}
use Rattle.ix_catalog.specs.Lists.{find}

pub sum_same : {X : Type 0} (f g : X → ℕ) (xs : List X) → AllByRecursion (λ x. f x ≡ g x) xs → sum_by f xs ≡ sum_by g xs
sum_same f g [] h = refl
sum_same f g (x ∷ xs) h =
    let a = sum_by-cons f x xs in
    let b = sum_by-cons g x xs in
    let c = h.0 in
    let d = sum_same f g xs h.1 in
    omega (arith, a, b, c, d)

pub sum_map : {X Y : Type 0} (g : Y → ℕ) (f : X → Y) (xs : List X) → sum_by g (map f xs) ≡ sum_by (λ x. g (f x)) xs
sum_map g f [] = refl
sum_map g f (x ∷ xs) =
    let a = sum_by-cons g (f x) (map f xs) in
    let b = sum_by-cons (λ y. g (f y)) x xs in
    let c = sum_map g f xs in
    omega (arith, a, b, c)

pub sum_flat : {X Y : Type 0} (g : Y → ℕ) (f : X → List Y) (xs : List X) → sum_by g (flat_map f xs) ≡ sum_by (λ x. sum_by g (f x)) xs
sum_flat g f [] = refl
sum_flat g f (x ∷ xs) =
    let a = sum_by-append g (f x) (flat_map f xs) in
    let b = sum_by-cons (λ y. sum_by g (f y)) x xs in
    let c = sum_flat g f xs in
    omega (arith, a, b, c)

pub sum_two : {X : Type 0} (f g : X → ℕ) (xs : List X) → sum_by (λ x. f x + g x) xs ≡ sum_by f xs + sum_by g xs
sum_two f g [] = refl
sum_two f g (x ∷ xs) =
    let a = sum_by-cons (λ y. f y + g y) x xs in
    let b = sum_by-cons f x xs in
    let c = sum_by-cons g x xs in
    let d = sum_two f g xs in
    omega (arith, a, b, c, d)

pub sum_most : {X : Type 0} (f g : X → ℕ) (xs : List X) → AllByRecursion (λ x. f x ≤ g x) xs → sum_by f xs ≤ sum_by g xs
sum_most f g [] h = omega arith
sum_most f g (x ∷ xs) h =
    let a = sum_by-cons f x xs in
    let b = sum_by-cons g x xs in
    let c = h.0 in
    let d = sum_most f g xs h.1 in
    omega (arith, a, b, c, d)

-- each is at most the sum
pub each_most : {X : Type 0} (f : X → ℕ) (xs : List X) (n : ℕ) → sum_by f xs ≤ n → AllByRecursion (λ x. f x ≤ n) xs
each_most f [] n h = tt
each_most f (x ∷ xs) n h =
    let a = sum_by-cons f x xs in
    ((let p : f x ≤ n = omega (arith, a, h) in p), each_most f xs n (omega (arith, a, h)))

-- a sum is 0 where each is
pub none_in : {X : Type 0} (f : X → ℕ) (xs : List X) → AllByRecursion (λ x. f x ≡ 0) xs → sum_by f xs ≡ 0
none_in f [] h = refl
none_in f (x ∷ xs) h =
    let a = sum_by-cons f x xs in
    let b = h.0 in
    let c = none_in f xs h.1 in
    omega (arith, a, b, c)

pub none_each : {X : Type 0} (f : X → ℕ) (xs : List X) → sum_by f xs ≡ 0 → AllByRecursion (λ x. f x ≡ 0) xs
none_each f [] h = tt
none_each f (x ∷ xs) h =
    let a = sum_by-cons f x xs in
    ((let p : f x ≡ 0 = omega (arith, a, h) in p), none_each f xs (omega (arith, a, h)))

pub all_from : {X : Type 0} (P Q : X → Type 0) → ((x : X) → P x → Q x) → (xs : List X) → AllByRecursion P xs → AllByRecursion Q xs
all_from P Q k [] h = tt
all_from P Q k (x ∷ xs) h = (k x h.0, all_from P Q k xs h.1)

pub all_two : {X : Type 0} (P Q R : X → Type 0) → ((x : X) → P x → Q x → R x) → (xs : List X) → AllByRecursion P xs → AllByRecursion Q xs →
    AllByRecursion R xs
all_two P Q R k [] h i = tt
all_two P Q R k (x ∷ xs) h i = (k x h.0 i.0, all_two P Q R k xs h.1 i.1)

-- indexes that never had a bucket add nothing
pub fresh_sum : (g : Index → ℕ) → ((name : List ℕ) → g (fresh_index name) ≡ 0) → (names : List (List ℕ)) (is : List Index) →
    sum_by g (fold with_fresh is names) ≡ sum_by g is
fresh_sum g z [] is = refl
fresh_sum g z (name ∷ names) is =
    fresh_sum g z names (with_fresh is name)
    ∙ (let a = sum_change_or_insert index_name name (λ (i : Index). i) (fresh_index name) g 0 is (z name)
    (let n : g (unwrap_or (find index_name name is) (fresh_index name)) ≡ g
    (unwrap_or (find index_name name is) (fresh_index name)) + 0 = omega arith in n) in
    omega (arith, a))
