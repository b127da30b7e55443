-- The indexes that are seen: those that ever had a bucket, and the configured ones among them.
use Rattle.std.proofs.Common.{◌≡◌, ℕ, Bool, true, false, List, [], ◌∷◌, refl, sym, ap, ◌∙◌, subst}
use Rattle.std.specs.Prelude.{Option, Some, None, if◌then◌else◌, fold, unwrap_or, bytes_eq}
use Rattle.std.specs.List.{AllByRecursion}
use Rattle.std.specs.Option.{option_map}
use Rattle.ix_model.specs.Buckets.{Index}
use Rattle.ix_model.specs.Shown.{with_fresh}
use Rattle.ix_model.specs.State.{index_name, fresh_index, index_in}
use Rattle.ix_model.specs.Sums.{IsSound}
use Rattle.ix_model.proofs.Ascending.{ascending_change, ascending_change_or_insert}
use Rattle.ix_model.proofs.Named.{by_test, same_bytes, find_change, find_change_or_insert, all_change_or_insert}
use Rattle.ix_catalog.specs.Lists.{find, change, change_or_insert, AreAscending}
use Rattle.ix_model.proofs.Names.{same_lists}

abbrev pub among : List (List ℕ) → List ℕ → Bool
among [] name = false
among (n ∷ names) name = if bytes_eq n name then true else among names name

-- an index that is found, or else one without buckets where its name is among those that are listed
abbrev pub or_fresh : Bool → List ℕ → Option Index → Option Index
or_fresh b name (Some i) = Some i
or_fresh true name None = Some (fresh_index name)
or_fresh false name None = None

not_fresh : (name : List ℕ) (o : Option Index) → o ≡ or_fresh false name o
not_fresh name None = refl
not_fresh name (Some i) = refl

fresh_once : (b : Bool) (name : List ℕ) (o : Option Index) → or_fresh b name (Some (unwrap_or o (fresh_index name))) ≡ or_fresh true name o
fresh_once b name None = refl
fresh_once b name (Some i) = refl

fresh_found : (is : List Index) (n name : List ℕ) →
    find index_name name (with_fresh is n) ≡ (if bytes_eq n name then Some (unwrap_or (find index_name n is) (fresh_index n)) else find
    index_name name is)
fresh_found is n name = find_change_or_insert index_name n name (λ (i : Index). i) (fresh_index n) (λ i. refl) refl is

pub find_fresh : (names : List (List ℕ)) (is : List Index) (name : List ℕ) →
    find index_name name (fold with_fresh is names) ≡ or_fresh (among names name) name (find index_name name is)
find_fresh [] is name = not_fresh name (find index_name name is)
find_fresh (n ∷ names) is name =
    find_fresh names (with_fresh is n) name
    ∙ ap (or_fresh (among names name) name) (fresh_found is n name)
    ∙ by_test (bytes_eq n name)
    (λ t. rw t (ap (λ (m : List ℕ). or_fresh (among names name) name (Some (unwrap_or (find index_name m is) (fresh_index m))))
    (same_bytes n name t)
    ∙ fresh_once (among names name) name (find index_name name is)))
    (λ t. rw t refl)

pub found_fresh : (names : List (List ℕ)) (is : List Index) (name : List ℕ) → among names name ≡ true →
    find index_name name (fold with_fresh is names) ≡ Some (index_in is name)
found_fresh names is name t = find_fresh names is name ∙ rw t (by (find index_name name is))
  where
    by : (o : Option Index) → or_fresh true name o ≡ Some (unwrap_or o (fresh_index name))
    by None = refl
    by (Some i) = refl

pub ascending_fresh : (names : List (List ℕ)) (is : List Index) → AreAscending index_name is →
    AreAscending index_name (fold with_fresh is names)
ascending_fresh [] is h = h
ascending_fresh (n ∷ names) is h =
    ascending_fresh names (with_fresh is n)
    (ascending_change_or_insert index_name n (λ (i : Index). i) (fresh_index n) (λ i. refl) refl is h)

pub sound_fresh : (names : List (List ℕ)) (is : List Index) → AllByRecursion IsSound is → AllByRecursion IsSound (fold with_fresh is names)
sound_fresh [] is h = h
sound_fresh (n ∷ names) is h =
    sound_fresh names (with_fresh is n) (all_change_or_insert IsSound index_name n (λ (i : Index). i) (fresh_index n) is h (λ i p. p) tt)

-- ---- changes of an index that is listed

mapped_fresh : (b : Bool) (name : List ℕ) (f : Index → Index) (o : Option Index) → f (fresh_index name) ≡ fresh_index name →
    or_fresh b name (option_map f o) ≡ option_map f (or_fresh b name o)
mapped_fresh true name f None k = ap (λ (i : Index). Some i) (sym k)
mapped_fresh false name f None k = refl
mapped_fresh b name f (Some i) k = refl

-- a change that leaves one without buckets as it is can be made before the others are listed
pub change_fresh : (names : List (List ℕ)) (is : List Index) (name : List ℕ) (f : Index → Index) → ((i : Index) → (f i).name ≡ i.name) →
    ((n : List ℕ) → f (fresh_index n) ≡ fresh_index n) → AreAscending index_name is →
    fold with_fresh (change index_name name f is) names ≡ change index_name name f (fold with_fresh is names)
change_fresh names is name f k z h =
    same_lists index_name (fold with_fresh (change index_name name f is) names) (change index_name name f (fold with_fresh is names))
    (ascending_fresh names (change index_name name f is) (ascending_change index_name name f k is h))
    (ascending_change index_name name f k (fold with_fresh is names) (ascending_fresh names is h))
    (λ other. find_fresh names (change index_name name f is) other
    ∙ ap (or_fresh (among names other) other) (find_change index_name name other f k is)
    ∙ by other
    ∙ sym (ap (λ (o : Option Index). if bytes_eq name other then option_map f o else o) (find_fresh names is other))
    ∙ sym (find_change index_name name other f k (fold with_fresh is names)))
  where
    by : (other : List ℕ) →
        or_fresh (among names other) other (if bytes_eq name other then option_map f (find index_name other is) else find index_name other
        is)
        ≡ (if bytes_eq name other then option_map f (or_fresh (among names other) other (find index_name other is)) else or_fresh
        (among names other) other (find index_name other is))
    by other = by_test (bytes_eq name other)
        (λ t. rw t (mapped_fresh (among names other) other f (find index_name other is) (z other)))
        (λ t. rw t refl)

-- an index that is listed can be changed before the others are, with f of one without buckets where
-- it has none
pub insert_fresh : (names : List (List ℕ)) (is : List Index) (name : List ℕ) (f : Index → Index) → ((i : Index) → (f i).name ≡ i.name) →
    among names name ≡ true → AreAscending index_name is →
    fold with_fresh (change_or_insert index_name name f (fresh_index name) is) names ≡ change index_name name f (fold with_fresh is names)
insert_fresh names is name f k l h =
    same_lists index_name (fold with_fresh (change_or_insert index_name name f (fresh_index name) is) names)
    (change index_name name f (fold with_fresh is names))
    (ascending_fresh names (change_or_insert index_name name f (fresh_index name) is)
    (ascending_change_or_insert index_name name f (fresh_index name) k refl is h))
    (ascending_change index_name name f k (fold with_fresh is names) (ascending_fresh names is h))
    (λ other. find_fresh names (change_or_insert index_name name f (fresh_index name) is) other
    ∙ ap (or_fresh (among names other) other) (find_change_or_insert index_name name other f (fresh_index name) k refl is)
    ∙ by other
    ∙ sym (ap (λ (o : Option Index). if bytes_eq name other then option_map f o else o) (find_fresh names is other))
    ∙ sym (find_change index_name name other f k (fold with_fresh is names)))
  where
    one : (o : Option Index) → or_fresh (among names name) name (Some (f (unwrap_or o (fresh_index name)))) ≡ option_map f
        (or_fresh true name o)
    one None = refl
    one (Some i) = refl

    by : (other : List ℕ) →
        or_fresh (among names other) other (if bytes_eq name other then Some (f (unwrap_or (find index_name name is) (fresh_index name)))
        else find index_name other is)
        ≡ (if bytes_eq name other then option_map f (or_fresh (among names other) other (find index_name other is)) else or_fresh
        (among names other) other (find index_name other is))
    by other = by_test (bytes_eq name other)
        (λ t. rw t (subst (λ (n : List ℕ). or_fresh (among names n) n (Some (f (unwrap_or (find index_name name is) (fresh_index name))))
        ≡ option_map f (or_fresh (among names n) n (find index_name n is))) (same_bytes name other t)
        (one (find index_name name is) ∙ ap (λ (b : Bool). option_map f (or_fresh b name (find index_name name is))) (sym l))))
        (λ t. rw t refl)
