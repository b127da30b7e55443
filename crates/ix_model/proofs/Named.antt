-- Lists of things that have names: finding, changing, adding and taking out.
use Rattle.std.proofs.Common.{◌≡◌, ℕ, ◌+◌, Bool, true, false, List, [], ◌∷◌, refl, sym, ap, ◌∙◌, arith, subst}
use Rattle.std.specs.Prelude.{Option, Some, None, is_some, if◌then◌else◌, unwrap_or, bytes_eq}
use Rattle.std.specs.List.{AllByRecursion, sum_by}
use Rattle.std.specs.Option.{option_map}
use Rattle.std.proofs.lemmas.List.Sums.{sum_by-cons}
use Rattle.std.proofs.lemmas.Slice.Eq.{bytes_eq-Decides}
use Rattle.ix_life.specs.Order as order
use Rattle.ix_catalog.specs.Lists.{find, without, change, stands_before, insert, change_or_insert}

pub by_test : {R : Type 0} (b : Bool) → (b ≡ true → R) → (b ≡ false → R) → R
by_test true on_true on_false = on_true refl
by_test false on_true on_false = on_false refl

true-false : true ≡ false → ⊥
true-false e = cc

pub same_bytes : (a b : List ℕ) → bytes_eq a b ≡ true → a ≡ b
same_bytes a b e = (bytes_eq-Decides a b).0 e

pub bytes_same : (a b : List ℕ) → a ≡ b → bytes_eq a b ≡ true
bytes_same a b e = (bytes_eq-Decides a b).1 e

-- names that are equal pass and fail the same tests
same_test : (a b c : List ℕ) → bytes_eq a b ≡ true → bytes_eq b c ≡ bytes_eq a c
same_test a b c e = ap (λ (x : List ℕ). bytes_eq x c) (sym (same_bytes a b e))

-- ---- changed

not_both : (a b c : List ℕ) → bytes_eq a b ≡ false → bytes_eq a c ≡ true → bytes_eq b c ≡ false
not_both a b c e f = by_test (bytes_eq b c)
    (λ t. absurd (true-false (sym (bytes_same a b (same_bytes a c f ∙ sym (same_bytes b c t))) ∙ e)))
    (λ t. t)

pub find_change : {X : Type 0} (name_of : X → List ℕ) (name other : List ℕ) (f : X → X) → ((x : X) → name_of (f x) ≡ name_of x) →
    (xs : List X) →
    find name_of other (change name_of name f xs) ≡ (if bytes_eq name other then option_map f (find name_of other xs) else find name_of
    other xs)
find_change name_of name other f k [] = by_test (bytes_eq name other) (λ t. rw t refl) (λ t. rw t refl)
find_change name_of name other f k (x ∷ xs) =
    by_test (bytes_eq (name_of x) name)
    (λ t. by_test (bytes_eq (name_of x) other)
    (λ u. rw (t, k x, u, same_test (name_of x) name other t, u) refl)
    (λ u. rw (t, k x, u, same_test (name_of x) name other t, u) refl))
    (λ t. by_test (bytes_eq (name_of x) other)
    (λ u. rw (t, u, not_both (name_of x) name other t u) refl)
    (λ u. rw (t, u) (find_change name_of name other f k xs)))

-- ---- put among the others

pub find_put : {X : Type 0} (name_of : X → List ℕ) (before : X → X → Bool) (other : List ℕ) (x : X) (xs : List X) →
    find name_of (name_of x) xs ≡ None →
    find name_of other (order.put before x xs) ≡ (if bytes_eq (name_of x) other then Some x else find name_of other xs)
find_put {X = X} name_of before other x [] is_none = refl
find_put {X = X} name_of before other x (y ∷ ys) none =
    by_test (bytes_eq (name_of y) (name_of x))
    (λ t. absurd (none-some (rw t at none)))
    (λ t. by_test (before y x)
    (λ b. by_test (bytes_eq (name_of y) other)
    (λ u. rw (b, u, not_both (name_of y) (name_of x) other t u) refl)
    (λ u. rw (b, u) (find_put name_of before other x ys (rw t at none))))
    (λ b. rw b refl))
  where
    none-some : Some y ≡ None → ⊥
    none-some e = cc

none_some : {X : Type 0} {x : X} → None ≡ Some x → ⊥
none_some e = cc

pub change_none : {X : Type 0} (name_of : X → List ℕ) (name : List ℕ) (f : X → X) (xs : List X) → find name_of name xs ≡ None →
    change name_of name f xs ≡ xs
change_none {X = X} name_of name f [] e = refl
change_none {X = X} name_of name f (x ∷ xs) e =
    by_test (bytes_eq (name_of x) name)
    (λ t. absurd (none_some (sym (rw t at e))))
    (λ t. rw t (ap (λ (ys : List X). x ∷ ys) (change_none name_of name f xs (rw t at e))))

-- with f of the one that is there, or else of a fresh one
put_at : {X : Type 0} (name_of : X → List ℕ) (name other : List ℕ) (f : X → X) (fresh : X) → ((x : X) → name_of (f x) ≡ name_of x) →
    name_of fresh ≡ name →
    (xs : List X) (o : Option X) → find name_of name xs ≡ o →
    find name_of other (if is_some o then change name_of name f xs else insert name_of (f fresh) xs)
    ≡ (if bytes_eq name other then Some (f (unwrap_or o fresh)) else find name_of other xs)
put_at name_of name other f fresh k is xs None e =
    find_put name_of (stands_before name_of) other (f fresh) xs (ap (λ (n : List ℕ). find name_of n xs) (k fresh ∙ is) ∙ e)
    ∙ ap (λ (n : List ℕ). if bytes_eq n other then Some (f fresh) else find name_of other xs) (k fresh ∙ is)
put_at name_of name other f fresh k is xs (Some y) e =
    find_change name_of name other f k xs
    ∙ by_test (bytes_eq name other)
    (λ t. rw t (ap (option_map f) (ap (λ (n : List ℕ). find name_of n xs) (sym (same_bytes name other t)) ∙ e)))
    (λ t. rw t refl)

pub find_change_or_insert : {X : Type 0} (name_of : X → List ℕ) (name other : List ℕ) (f : X → X) (fresh : X) →
    ((x : X) → name_of (f x) ≡ name_of x) → name_of fresh ≡ name →
    (xs : List X) → find name_of other (change_or_insert name_of name f fresh xs)
    ≡ (if bytes_eq name other then Some (f (unwrap_or (find name_of name xs) fresh)) else find name_of other xs)
find_change_or_insert name_of name other f fresh k is xs = put_at name_of name other f fresh k is xs (find name_of name xs) refl

-- ---- taken out

pub find_without : {X : Type 0} (name_of : X → List ℕ) (name other : List ℕ) (xs : List X) → bytes_eq name other ≡ false →
    find name_of other (without name_of name xs) ≡ find name_of other xs
find_without name_of name other [] d = refl
find_without name_of name other (x ∷ xs) d =
    by_test (bytes_eq (name_of x) name)
    (λ t. rw (t, sym (same_test (name_of x) name other t) ∙ d) refl)
    (λ t. by_test (bytes_eq (name_of x) other)
    (λ u. rw (t, u) refl)
    (λ u. rw (t, u) (find_without name_of name other xs d)))

-- ---- sums

swap_sums : (a b c d e : ℕ) → a + c ≡ b + d → (e + a) + c ≡ (e + b) + d
swap_sums a b c d e h = omega (arith, h)

pub sum_change : {X : Type 0} (name_of : X → List ℕ) (name : List ℕ) (f : X → X) (g : X → ℕ) (y : X) (xs : List X) →
    find name_of name xs ≡ Some y →
    sum_by g (change name_of name f xs) + g y ≡ sum_by g xs + g (f y)
sum_change {X = X} name_of name f g y [] e = absurd (none_some e)
sum_change {X = X} name_of name f g y (x ∷ xs) e =
    by_test (bytes_eq (name_of x) name)
    (λ t. rw t (first (is_first (rw t at e))))
    (λ t. rw t (rw (sum_by-cons g x (change name_of name f xs), sum_by-cons g x xs)
    (swap_sums (sum_by g (change name_of name f xs)) (sum_by g xs) (g y) (g (f y)) (g x) (sum_change name_of name f g y xs (rw t at e)))))
  where
    is_first : Some x ≡ Some y → x ≡ y
    is_first h = cc

    first : x ≡ y → sum_by g (f x ∷ xs) + g y ≡ sum_by g (x ∷ xs) + g (f y)
    first h =
        let a : g x ≡ g y = ap g h in
        let b : g (f x) ≡ g (f y) = ap (λ (z : X). g (f z)) h in
        rw (sum_by-cons g (f x) xs, sum_by-cons g x xs) (omega (arith, a, b))

pub sum_put : {X : Type 0} (before : X → X → Bool) (g : X → ℕ) (x : X) (xs : List X) → sum_by g (order.put before x xs) ≡ g x + sum_by g xs
sum_put before g x [] = sum_by-cons g x []
sum_put before g x (y ∷ ys) =
    by_test (before y x)
    (λ t. rw t (rw (sum_by-cons g y (order.put before x ys), sum_by-cons g y ys, sum_put before g x ys) (omega arith)))
    (λ t. rw t (sum_by-cons g x (y ∷ ys)))

more_by : {X : Type 0} (name_of : X → List ℕ) (name : List ℕ) (f : X → X) (fresh : X) (g : X → ℕ) (d : ℕ) (xs : List X) (o : Option X) →
    find name_of name xs ≡ o →
    g fresh ≡ 0 → g (f (unwrap_or o fresh)) ≡ g (unwrap_or o fresh) + d →
    sum_by g (if is_some o then change name_of name f xs else insert name_of (f fresh) xs) ≡ sum_by g xs + d
more_by name_of name f fresh g d xs None e z h = rw (sum_put (stands_before name_of) g (f fresh) xs) (omega (arith, z, h))
more_by name_of name f fresh g d xs (Some y) e z h = let s = sum_change name_of name f g y xs e in omega (arith, s, h)

-- a change that adds d to what is summed adds it to the sum
pub sum_change_or_insert : {X : Type 0} (name_of : X → List ℕ) (name : List ℕ) (f : X → X) (fresh : X) (g : X → ℕ) (d : ℕ) (xs : List X) →
    g fresh ≡ 0 → g (f (unwrap_or (find name_of name xs) fresh)) ≡ g (unwrap_or (find name_of name xs) fresh) + d →
    sum_by g (change_or_insert name_of name f fresh xs) ≡ sum_by g xs + d
sum_change_or_insert name_of name f fresh g d xs z h = more_by name_of name f fresh g d xs (find name_of name xs) refl z h

-- ---- each

pub all_found : {X : Type 0} (P : X → Type 0) (name_of : X → List ℕ) (name : List ℕ) (y : X) (xs : List X) → AllByRecursion P xs →
    find name_of name xs ≡ Some y → P y
all_found {X = X} P name_of name y [] h e = absurd (none_some e)
all_found {X = X} P name_of name y (x ∷ xs) h e =
    by_test (bytes_eq (name_of x) name)
    (λ t. subst P (is_first (rw t at e)) h.0)
    (λ t. all_found P name_of name y xs h.1 (rw t at e))
  where
    is_first : Some x ≡ Some y → x ≡ y
    is_first h = cc

pub all_change : {X : Type 0} (P : X → Type 0) (name_of : X → List ℕ) (name : List ℕ) (f : X → X) (xs : List X) → AllByRecursion P xs →
    ((x : X) → P x → P (f x)) → AllByRecursion P (change name_of name f xs)
all_change P name_of name f [] h k = tt
all_change P name_of name f (x ∷ xs) h k =
    by_test (bytes_eq (name_of x) name)
    (λ t. rw t (k x h.0, h.1))
    (λ t. rw t (h.0, all_change P name_of name f xs h.1 k))

pub all_put : {X : Type 0} (P : X → Type 0) (before : X → X → Bool) (x : X) (xs : List X) → P x → AllByRecursion P xs →
    AllByRecursion P (order.put before x xs)
all_put P before x [] p h = (p, tt)
all_put P before x (y ∷ ys) p h =
    by_test (before y x)
    (λ t. rw t (h.0, all_put P before x ys p h.1))
    (λ t. rw t (p, h))

all_by : {X : Type 0} (P : X → Type 0) (name_of : X → List ℕ) (name : List ℕ) (f : X → X) (fresh : X) (xs : List X) (b : Bool) →
    AllByRecursion P xs →
    ((x : X) → P x → P (f x)) → P fresh → AllByRecursion P (if b then change name_of name f xs else insert name_of (f fresh) xs)
all_by P name_of name f fresh xs true h k p = all_change P name_of name f xs h k
all_by P name_of name f fresh xs false h k p = all_put P (stands_before name_of) (f fresh) xs (k fresh p) h

pub all_change_or_insert : {X : Type 0} (P : X → Type 0) (name_of : X → List ℕ) (name : List ℕ) (f : X → X) (fresh : X) (xs : List X) →
    AllByRecursion P xs →
    ((x : X) → P x → P (f x)) → P fresh → AllByRecursion P (change_or_insert name_of name f fresh xs)
all_change_or_insert P name_of name f fresh xs h k p = all_by P name_of name f fresh xs (is_some (find name_of name xs)) h k p
