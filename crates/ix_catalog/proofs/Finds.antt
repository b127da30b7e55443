-- Indexes by their names, and by their places.
use Rattle.std.proofs.Common.{◌≡◌, ℕ, zero, suc, ◌<◌, ◌≤◌, Bool, true, false, cond, ltb, List, [], ◌∷◌, length, get_or, Some, None, refl}
use Rattle.std.proofs.Common.{ap, ◌∙◌, arith}
use Rattle.std.proofs.lemmas.Bool.Decides.{nat_tests}
use Rattle.std.specs.List.{position, position_or_len}
use Rattle.std.specs.Str.{bytes_eq}
use Rattle.std.proofs.lemmas.List.Quantifiers.{position-Some}
use Rattle.std.proofs.lemmas.List.Recursion.{found_at, found_nowhere}
use Rattle.std.proofs.lemmas.List.Sums.{fails_before_first}
use Rattle.ix_life.specs.declared.views.IndexView.{IndexView}
use Rattle.ix_catalog.specs.Lists.{find, change, update}
use Rattle.ix_catalog.specs.Shelves.{view_name}

abbrev pub has_name : List ℕ → IndexView → Bool
has_name name v = bytes_eq v.name name

-- where the one of a name stands
pub record StandsAt (name : List ℕ) (xs : List IndexView) (k : ℕ) (d : IndexView) : Type 0 where
  pub within : k < length xs
  pub named : bytes_eq (get_or xs k d).name name ≡ true
  pub found : find view_name name xs ≡ Some (get_or xs k d)
  pub changes : (f : IndexView → IndexView) → change view_name name f xs ≡ update k f xs

change_at : (name : List ℕ) (f : IndexView → IndexView) (xs : List IndexView) (k : ℕ) (d : IndexView) → k < length xs →
    bytes_eq (get_or xs k d).name name ≡ true → ((j : ℕ) → j < k → bytes_eq (get_or xs j d).name name ≡ false) →
    change view_name name f xs ≡ update k f xs
change_at name f [] k d l t h = absurd (omega arith)
change_at name f (x ∷ xs) zero d l t h = ap (λ (b : Bool). cond b (f x ∷ xs) (x ∷ change view_name name f xs)) t
change_at name f (x ∷ xs) (suc k) d l t h =
    ap (λ (b : Bool). cond b (f x ∷ xs) (x ∷ change view_name name f xs)) (h zero (omega arith))
    ∙ ap (λ (ys : List IndexView). x ∷ ys) (change_at name f xs k d (omega arith) t (λ j m. h (suc j) (omega arith)))

pub stands_at : (name : List ℕ) (xs : List IndexView) (k : ℕ) (d : IndexView) → position (has_name name) xs ≡ Some k → StandsAt name xs k d
stands_at name xs k d e =
    let p = position-Some (has_name name) xs k d e in record {
      within = p.0;
      named = p.1;
      found = found_at (find view_name name) (has_name name) (λ (v : IndexView). Some v) None refl (λ x ys. refl) xs k d p.0 p.2 p.1;
      changes = λ f. change_at name f xs k d p.0 p.1 p.2;
    }

none_within : (b : Bool) (n : ℕ) → cond b (Some n) None ≡ None → b ≡ false
none_within true n e = cc
none_within false n e = refl

past_all : (m n : ℕ) → ltb m n ≡ false → n ≤ m
past_all m n e = grind (arith, nat_tests)

pub stands_nowhere : (name : List ℕ) (xs : List IndexView) → position (has_name name) xs ≡ None → find view_name name xs ≡ None
stands_nowhere name [] e = refl
stands_nowhere name (v ∷ xs) e =
    let m : length (v ∷ xs) ≤ position_or_len (has_name name) (v ∷ xs) =
    past_all _ _ (none_within (ltb (position_or_len (has_name name) (v ∷ xs)) (length (v ∷ xs)))
    (position_or_len (has_name name) (v ∷ xs)) e) in
    found_nowhere (find view_name name) (has_name name) (λ (x : IndexView). Some x) None refl (λ x ys. refl) (v ∷ xs) v
    (λ k l. fails_before_first (has_name name) (v ∷ xs) k v (omega (arith, l, m)))
