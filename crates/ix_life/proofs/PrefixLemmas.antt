-- The shortest prefix.
use Rattle.std.proofs.Common.{◌≡◌, ◌+◌, ◌-◌, ◌<◌, ℕ, zero, suc, Bool, true, false, List, [], ◌∷◌, refl, sym, length, drop, arith}
use Rattle.std.proofs.lemmas.List.{length-drop}
use Rattle.std.proofs.lemmas.Bool.{false≢true}
use Rattle.std.proofs.Math.ListN.{drop_of_length-le}
use Rattle.ix_items.specs.declared.items.Bucket.{Bucket}
use Rattle.ix_life.specs.declared.caps.Cap.{Cap}
use Rattle.ix_life.specs.Prefix.{shortest, IsShortest, allowed, fits, sizes}

-- a list whose front is already enough
stops : {A : Type 0} (p : List A → Bool) (xs : List A) → p xs ≡ true → shortest p xs ≡ 0
stops p [] e = refl
stops p (x ∷ xs) e = rw e refl

least_at : {A : Type 0} (p : List A → Bool) (x : A) (xs : List A) (n : ℕ) → p (x ∷ xs) ≡ false → ((m : ℕ) → m < n → p (drop m xs) ≡ false) →
    (m : ℕ) → m < suc n → p (drop m (x ∷ xs)) ≡ false
least_at p x xs n e h zero l = e
least_at p x xs n e h (suc m) l = h m (omega (arith, l))

one_more : {A : Type 0} (p : List A → Bool) (x : A) (xs : List A) (n : ℕ) → p (x ∷ xs) ≡ false → IsShortest p xs n →
    IsShortest p (x ∷ xs) (suc n)
one_more p x xs n e h = record {
  within = omega (arith, h.within);
  met = λ l. h.met (omega (arith, l));
  least = least_at p x xs n e h.least;
}

none_below : {A : Type 0} (p : List A → Bool) (xs : List A) (m : ℕ) → m < 0 → p (drop m xs) ≡ false
none_below p xs m l = elim l [ ]

at_once : {A : Type 0} (p : List A → Bool) (xs : List A) → p xs ≡ true → IsShortest p xs 0
at_once p xs e = record { within = omega arith; met = λ l. e; least = none_below p xs }

is_at : {A : Type 0} (p : List A → Bool) (x : A) (xs : List A) (b : Bool) → p (x ∷ xs) ≡ b → IsShortest p xs (shortest p xs) →
    IsShortest p (x ∷ xs) (shortest p (x ∷ xs))
is_at p x xs true e h = rw e (at_once p (x ∷ xs) e)
is_at p x xs false e h = rw e (one_more p x xs (shortest p xs) e h)

never : {A : Type 0} (p : List A → Bool) → 0 < length {A = A} [] → p (drop 0 []) ≡ true
never p l = elim l [ ]

-- `shortest` is the shortest prefix that leaves an allowed rest, or the whole list
pub shortest_is : {A : Type 0} (p : List A → Bool) (xs : List A) → IsShortest p xs (shortest p xs)
shortest_is p [] = record { within = omega arith; met = never p; least = none_below p [] }
shortest_is p (x ∷ xs) = is_at p x xs (p (x ∷ xs)) refl (shortest_is p xs)

-- where the running count of bytes meets the cap, the places before are the shortest prefix
pub met_at : (cap : Cap) (bs : List Bucket) (i left : ℕ) → i < length bs → left ≡ sizes (drop i bs) → true ≡ fits cap (length bs - i) left →
    i + shortest (allowed cap) (drop i bs) ≡ shortest (allowed cap) bs → i ≡ shortest (allowed cap) bs
met_at cap bs i left l e f inv =
    let g : allowed cap (drop i bs) ≡ true = rw (length-drop i bs) (rw (sym e) (sym f)) in
    let z : shortest (allowed cap) (drop i bs) ≡ 0 = stops (allowed cap) (drop i bs) g in
    omega (arith, inv, z)

-- the whole list, where no place met it
pub all_go : (cap : Cap) (bs : List Bucket) (i : ℕ) → i ≡ length bs → i + shortest (allowed cap) (drop i bs) ≡ shortest (allowed cap) bs →
    length bs ≡ shortest (allowed cap) bs
all_go cap bs i e inv =
    let z : shortest (allowed cap) (drop i bs) ≡ 0 = rw (drop_of_length-le bs {i = i} (omega (arith, e))) refl in
    omega (arith, inv, z, e)

clash : (b : Bool) → b ≡ true → b ≡ false → ⊥
clash true e f = false≢true (sym f)
clash false e f = false≢true e

not_below : {A : Type 0} (p : List A → Bool) (xs : List A) (a b : ℕ) → IsShortest p xs a → IsShortest p xs b → a < b → ⊥
not_below p xs a b ha hb l = clash (p (drop a xs)) (ha.met (omega (arith, l, hb.within))) (hb.least a l)

-- only one number is the shortest
pub one_shortest : {A : Type 0} (p : List A → Bool) (xs : List A) (a b : ℕ) → IsShortest p xs a → IsShortest p xs b → a ≡ b
one_shortest p xs a b ha hb =
    let below : a < b → ⊥ = not_below p xs a b ha hb in
    let above : b < a → ⊥ = not_below p xs b a hb ha in
    omega (arith, below, above)
