-- Laws of changes at a place, and of buckets by their numbers.
use Rattle.std.proofs.Common.{◌≡◌, ℕ, zero, suc, ◌+◌, ◌<◌, ◌≤◌, Bool, cond, List, [], ◌∷◌, ◌++◌, length, map, take, drop, set, get_or}
use Rattle.std.proofs.Common.{refl, sym, ap, ◌∙◌, arith, subst, eq-eqb}
use Rattle.std.proofs.lemmas.Bool.Decides.{nat_tests}
use native.Mathlib.Numerals.{unary_clauses}
use Rattle.std.specs.List.{AllByRecursion}
use Rattle.ix_items.specs.declared.items.Bucket.{Bucket}
use Rattle.ix_catalog.specs.Filling.{at_id}
use Rattle.ix_catalog.specs.Lists.{update}

pub set_update : {X : Type 0} (k : ℕ) (f : X → X) (xs : List X) (d : X) → k < length xs → set xs k (f (get_or xs k d)) ≡ update k f xs
set_update k f [] d l = absurd (omega arith)
set_update zero f (x ∷ xs) d l = refl
set_update (suc k) f (x ∷ xs) d l = ap (λ ys. x ∷ ys) (set_update k f xs d (omega arith))

-- what f leaves as it is
pub update_same : {X : Type 0} (k : ℕ) (f : X → X) (xs : List X) (d : X) → k < length xs → f (get_or xs k d) ≡ get_or xs k d →
    xs ≡ update k f xs
update_same k f [] d l e = absurd (omega arith)
update_same zero f (x ∷ xs) d l e = ap (λ y. y ∷ xs) (sym e)
update_same (suc k) f (x ∷ xs) d l e = ap (λ ys. x ∷ ys) (update_same k f xs d (omega arith) e)

-- a list that is changed as far as a place, and one more
pub update_mixed : {X : Type 0} (i : ℕ) (f : X → X) (xs : List X) → i < length xs →
    update i f (map f (take i xs) ++ drop i xs) ≡ map f (take (suc i) xs) ++ drop (suc i) xs
update_mixed i f [] l = absurd (omega arith)
update_mixed zero f (x ∷ xs) l = refl
update_mixed (suc i) f (x ∷ xs) l = ap (λ ys. f x ∷ ys) (update_mixed i f xs (omega arith))

pub mixed_more : {X : Type 0} (i : ℕ) (f : X → X) (xs ys new : List X) → i < length xs → ys ≡ map f (take i xs) ++ drop i xs →
    new ≡ update i f ys →
    new ≡ map f (take (i + 1) xs) ++ drop (i + 1) xs
mixed_more i f xs ys new l e n = simp unary_clauses (n ∙ ap (update i f) e ∙ update_mixed i f xs l)

pub mixed_length : {X : Type 0} (i : ℕ) (f : X → X) (xs : List X) → length (map f (take i xs) ++ drop i xs) ≡ length xs
mixed_length zero f xs = refl
mixed_length (suc i) f [] = refl
mixed_length (suc i) f (x ∷ xs) = ap suc (mixed_length i f xs)

pub mixed_all : {X : Type 0} (f : X → X) (xs ys : List X) (i : ℕ) → length xs ≤ i → ys ≡ map f (take i xs) ++ drop i xs → ys ≡ map f xs
mixed_all f [] ys zero l e = e
mixed_all f [] ys (suc i) l e = e
mixed_all f (x ∷ xs) ys zero l e = absurd (omega arith)
mixed_all f (x ∷ xs) ys (suc i) l e = e ∙ ap (λ zs. f x ∷ zs) (mixed_all f xs (map f (take i xs) ++ drop i xs) i (omega arith) refl)

-- what holds of all that are changed, and of all that are not
pub all_mixed : {X : Type 0} (P : X → Type 0) (f : X → X) (i : ℕ) (xs : List X) → AllByRecursion P (map f xs) → AllByRecursion P xs →
    AllByRecursion P (map f (take i xs) ++ drop i xs)
all_mixed P f zero xs g h = h
all_mixed P f (suc i) [] g h = tt
all_mixed P f (suc i) (x ∷ xs) g h = (g.0, all_mixed P f i xs g.1 h.1)

pub all_update : {X : Type 0} (P : X → Type 0) (k : ℕ) (f : X → X) (xs : List X) (d : X) → AllByRecursion P xs → P (f (get_or xs k d)) →
    AllByRecursion P (update k f xs)
all_update P k f [] d h p = tt
all_update P zero f (x ∷ xs) d h p = (p, h.1)
all_update P (suc k) f (x ∷ xs) d h p = (h.0, all_update P k f xs d h.1 p)

pub at_update : {X : Type 0} (P : X → Type 0) (k : ℕ) (f : X → X) (xs : List X) (d : X) → k < length xs → AllByRecursion P (update k f xs) →
    P (f (get_or xs k d))
at_update P k f [] d l h = absurd (omega arith)
at_update P zero f (x ∷ xs) d l h = h.0
at_update P (suc k) f (x ∷ xs) d l h = at_update P k f xs d (omega arith) h.1

pub all_at : {X : Type 0} (P : X → Type 0) (k : ℕ) (xs : List X) (d : X) → k < length xs → AllByRecursion P xs → P (get_or xs k d)
all_at P k [] d l h = absurd (omega arith)
all_at P zero (x ∷ xs) d l h = h.0
all_at P (suc k) (x ∷ xs) d l h = all_at P k xs d (omega arith) h.1

pub all_back : {X : Type 0} (P : X → Type 0) (f : X → X) → ((x : X) → P (f x) → P x) → (xs : List X) → AllByRecursion P (map f xs) →
    AllByRecursion P xs
all_back P f g [] h = tt
all_back P f g (x ∷ xs) h = (g x h.0, all_back P f g xs h.1)

pub all_front : {X : Type 0} (P : X → Type 0) (xs ys : List X) → AllByRecursion P (xs ++ ys) → AllByRecursion P xs
all_front P [] ys h = tt
all_front P (x ∷ xs) ys h = (h.0, all_front P xs ys h.1)

pub all_push : {X : Type 0} (P : X → Type 0) (xs : List X) (x : X) → AllByRecursion P xs → P x → AllByRecursion P (xs ++ x ∷ [])
all_push P [] x h p = (p, tt)
all_push P (y ∷ xs) x h p = (h.0, all_push P xs x h.1 p)

-- ---- buckets by their numbers

pub at_other : (id : ℕ) (f : Bucket → Bucket) (b : Bucket) → (b.id ≡ id → ⊥) → at_id id f b ≡ b
at_other id f b h = grind (arith, nat_tests)

pub at_same : (id : ℕ) (f : Bucket → Bucket) (b : Bucket) → b.id ≡ id → at_id id f b ≡ f b
at_same id f b h = ap (λ (t : Bool). cond t (f b) b) (eq-eqb b.id id h)

-- another bucket stays
pub skipped : (k id : ℕ) (f : Bucket → Bucket) (bs : List Bucket) (d : Bucket) → k < length bs → ((get_or bs k d).id ≡ id → ⊥) →
    bs ≡ update k (at_id id f) bs
skipped k id f bs d l h = update_same k (at_id id f) bs d l (at_other id f (get_or bs k d) h)

pub changed : (k id : ℕ) (f : Bucket → Bucket) (bs : List Bucket) (d b : Bucket) → k < length bs → (get_or bs k d).id ≡ id →
    b ≡ f (get_or bs k d) →
    set bs k b ≡ update k (at_id id f) bs
changed k id f bs d b l h e = ap (set bs k) (e ∙ sym (at_same id f (get_or bs k d) h)) ∙ set_update k (at_id id f) bs d l

pub changed_at : (P : Bucket → Type 0) (k id : ℕ) (f : Bucket → Bucket) (bs : List Bucket) (d : Bucket) → k < length bs →
    (get_or bs k d).id ≡ id →
    AllByRecursion P (update k (at_id id f) bs) → P (f (get_or bs k d))
changed_at P k id f bs d l e h = subst P (at_same id f (get_or bs k d) e) (at_update P k (at_id id f) bs d l h)
