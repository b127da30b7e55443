-- Where a spot stands among the others, by its path.
use Rattle.std.proofs.Common.{◌≡◌, ℕ, zero, suc, ◌+◌, ◌<◌, ◌≤◌, Bool, true, false, List, [], ◌∷◌, ◌++◌, length, take, drop, refl, sym, ap}
use Rattle.std.proofs.Common.{◌∙◌, subst, arith}
use Rattle.std.specs.Prelude.{Option, Some, None, not, if◌then◌else◌, nat_lt, bytes_eq, is_some}
use Rattle.std.specs.List.{insert, position, position_or_len, prefix_len}
use Rattle.std.proofs.lemmas.Bool.{ltb-true, ltb-false}
use Rattle.ix_base.specs.declared.events.Spot.{Spot}
use Rattle.ix_model.specs.State.{spot_path}
use Rattle.ix_model.specs.Step.{with_spot}
use Rattle.ix_model.proofs.Named.{by_test}
use Rattle.ix_catalog.specs.Lists as lists
use Rattle.ix_catalog.specs.Lists.{find, change, update, stands_before, change_or_insert}
use Rattle.ix_apply.specs.Spots.{put_over, is_before, place_for}

none_some : {X : Type 0} {x : X} → None ≡ Some x → ⊥
none_some e = cc

some_same : {X : Type 0} {x y : X} → Some x ≡ Some y → x ≡ y
some_same e = cc

abbrev pub has_path : List ℕ → Spot → Bool
has_path path s = bytes_eq s.path path

-- ---- positions

prefix_within : {X : Type 0} (p : X → Bool) (xs : List X) → prefix_len p xs ≤ length xs
prefix_within p [] = omega arith
prefix_within p (x ∷ xs) =
    by_test (p x)
    (λ t. rw t (more (prefix_within p xs)))
    (λ t. rw t (omega arith))
  where
    more : prefix_len p xs ≤ length xs → 1 + prefix_len p xs ≤ length (x ∷ xs)
    more h = omega arith

found_at : {X : Type 0} (p : X → Bool) (xs : List X) (k : ℕ) → position p xs ≡ Some k → (k ≡ position_or_len p xs)
    × (position_or_len p xs < length xs)
found_at p xs k e =
    by_test (nat_lt (position_or_len p xs) (length xs))
    (λ t. (sym (some_same (rw t at e)), ltb-true (position_or_len p xs) (length xs) t))
    (λ t. absurd (none_some (rw t at e)))

pub found_none : {X : Type 0} (p : X → Bool) (xs : List X) → position p xs ≡ None → length xs ≡ position_or_len p xs
found_none p xs e =
    by_test (nat_lt (position_or_len p xs) (length xs))
    (λ t. absurd (none_some (sym (rw t at e))))
    (λ t. (let past = ltb-false (position_or_len p xs) (length xs) t in
    let within = prefix_within (λ x. not (p x)) xs in
    omega (arith, past, within)))

one_more : (k : ℕ) → 1 + k ≡ suc k
one_more k = omega arith

-- ---- a spot that is there

there : (path : List ℕ) (f : Spot → Spot) (xs : List Spot) → position_or_len (has_path path) xs < length xs →
    (update (position_or_len (has_path path) xs) f xs ≡ change spot_path path f xs) × (is_some (find spot_path path xs) ≡ true)
there path f [] l = absurd (omega arith)
there path f (s ∷ xs) l =
    by_test (has_path path s)
    (λ t. rw t (refl, refl))
    (λ t. rw (t, one_more (position_or_len (has_path path) xs))
    (let h = there path f xs (less (rw t at l)) in (ap (λ (l : List Spot). s ∷ l) h.0, h.1)))
  where
    less : 1 + position_or_len (has_path path) xs < length (s ∷ xs) → position_or_len (has_path path) xs < length xs
    less h = omega arith

pub put_is : (spot : Spot) (xs : List Spot) (k : ℕ) → position (has_path spot.path) xs ≡ Some k →
    update k (put_over spot) xs ≡ with_spot xs (Some spot)
put_is spot xs k e =
    let f = found_at (has_path spot.path) xs k e in
    let h = there spot.path (put_over spot) xs f.1 in
    let yes : is_some (find spot_path spot.path xs) ≡ true = h.1 in
    subst (λ (j : ℕ). update j (put_over spot) xs ≡ with_spot xs (Some spot)) (sym f.0) (rw yes h.0)

-- ---- a new one

nowhere : (path : List ℕ) (xs : List Spot) → length xs ≡ position_or_len (has_path path) xs → is_some (find spot_path path xs) ≡ false
nowhere path [] l = refl
nowhere path (s ∷ xs) l =
    by_test (has_path path s)
    (λ t. absurd (never (rw t at l)))
    (λ t. rw t (nowhere path xs (less (rw t at l))))
  where
    never : length (s ∷ xs) ≡ 0 → ⊥
    never h = omega (arith, h)

    less : length (s ∷ xs) ≡ 1 + position_or_len (has_path path) xs → length xs ≡ position_or_len (has_path path) xs
    less h = omega (arith, h)

inserted : (spot : Spot) (xs : List Spot) → insert xs (place_for spot.path xs) spot ≡ lists.insert spot_path spot xs
inserted spot [] = refl
inserted spot (s ∷ xs) =
    by_test (is_before spot.path s)
    (λ t. rw (t, one_more (place_for spot.path xs)) (ap (λ (l : List Spot). s ∷ l) (inserted spot xs)))
    (λ t. rw t refl)

pub new_is : (spot : Spot) (xs : List Spot) → position (has_path spot.path) xs ≡ None →
    insert xs (place_for spot.path xs) spot ≡ with_spot xs (Some spot)
new_is spot xs e =
    let no : is_some (find spot_path spot.path xs) ≡ false = nowhere spot.path xs (found_none (has_path spot.path) xs e) in
    rw no (inserted spot xs)

-- what is found of a lent path among lent spots is found of the path among the spots
pub found_here : (path lent : List ℕ) (xs ys : List Spot) (o : Option ℕ) → o ≡ position (has_path lent) ys → ys ≡ xs → lent ≡ path →
    position (has_path path) xs ≡ o
found_here path lent xs ys o e a b =
    ap (λ (n : List ℕ). position (has_path n) xs) (sym b) ∙ (ap (λ (zs : List Spot). position (has_path lent) zs) (sym a) ∙ sym e)
