-- Words on lists.
use Rattle.std.specs.Prelude.{◌≡◌, ℕ, zero, suc, Bool, if◌then◌else◌, List, [], ◌∷◌, Option, Some, None, is_some, bytes_eq}
use Rattle.std.specs.List.{AllByRecursion}
use Rattle.std.specs.declared.cmp.Ordering.TheVariants.{Less}
use Rattle.std.specs.Ordering.{nat_cmp, is_lt}
use Rattle.std.specs.Cmp.Lexicographic.{slice_cmp}
use Rattle.ix_life.specs.Order as order

-- ---- places

-- the list with f of the element at a place
abbrev pub update : {X : Type 0} → ℕ → (X → X) → List X → List X
update k f [] = []
update zero f (x ∷ xs) = f x ∷ xs
update (suc k) f (x ∷ xs) = x ∷ update k f xs

-- ---- things that have names, in the order of the bytes of these

-- the one of this name
abbrev pub find : {X : Type 0} → (X → List ℕ) → List ℕ → List X → Option X
find name_of name [] = None
find name_of name (x ∷ xs) = if bytes_eq (name_of x) name then Some x else find name_of name xs

-- the others
abbrev pub without : {X : Type 0} → (X → List ℕ) → List ℕ → List X → List X
without name_of name [] = []
without name_of name (x ∷ xs) = if bytes_eq (name_of x) name then xs else x ∷ without name_of name xs

-- with f of the one of this name
abbrev pub change : {X : Type 0} → (X → List ℕ) → List ℕ → (X → X) → List X → List X
change name_of name f [] = []
change name_of name f (x ∷ xs) = if bytes_eq (name_of x) name then f x ∷ xs else x ∷ change name_of name f xs

abbrev pub stands_before : {X : Type 0} → (X → List ℕ) → X → X → Bool
stands_before name_of x y = is_lt (slice_cmp nat_cmp (name_of x) (name_of y))

-- one more among the others
abbrev pub insert : {X : Type 0} → (X → List ℕ) → X → List X → List X
insert name_of x xs = order.put (stands_before name_of) x xs

-- with f of the one of this name, or else with f of a fresh one among the others
abbrev pub change_or_insert : {X : Type 0} → (X → List ℕ) → List ℕ → (X → X) → X → List X → List X
change_or_insert name_of name f fresh xs =
    if is_some (find name_of name xs) then change name_of name f xs else insert name_of (f fresh) xs

-- each stands before all that follow it, so that none has the name of another
abbrev pub AreAscending : {X : Type 0} → (X → List ℕ) → List X → Type 0
AreAscending name_of [] = Unit {0}
AreAscending name_of (x ∷ xs) =
    AllByRecursion (λ y. slice_cmp nat_cmp (name_of x) (name_of y) ≡ Less) xs × AreAscending name_of xs
