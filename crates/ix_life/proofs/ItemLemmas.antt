-- Entries are taken one after the other.
use Rattle.std.proofs.Common.{◌≡◌, ℕ, zero, suc, ◌+◌, List, [], ◌∷◌, ◌++◌, refl, sym, ap, ◌∙◌, drop, Option, Some, None, append_assoc}
use Rattle.std.proofs.Common.{arith}
use Rattle.std.specs.Prelude.{slice_get}
use Rattle.std.specs.List.{flat_map}
use Rattle.std.proofs.lemmas.List.{append-nil}

-- at a place that has an element, it is the first of those left
pub drop_at : {A : Type 0} (xs : List A) (i : ℕ) (x : A) → slice_get xs i ≡ Some x → drop i xs ≡ x ∷ drop (i + 1) xs
drop_at [] i x e = cc
drop_at (y ∷ ys) zero x e = let is : y ≡ x = cc in ap (λ z. z ∷ ys) is
drop_at (y ∷ ys) (suc i) x e = let next : suc i + 1 ≡ suc (i + 1) = omega arith in rw next (drop_at ys i x e)

-- at a place that has none, none are left
pub drop_past : {A : Type 0} (xs : List A) (i : ℕ) → slice_get xs i ≡ None → drop i xs ≡ []
drop_past [] zero e = refl
drop_past [] (suc i) e = refl
drop_past (y ∷ ys) zero e = cc
drop_past (y ∷ ys) (suc i) e = drop_past ys i e

-- ---- lists that are made of entries

pub list_more : {A B : Type 0} (f : A → List B) (xs : List A) (i : ℕ) (x : A) (list list' whole : List B) → slice_get xs i ≡ Some x →
    list' ≡ list ++ f x
    → list ++ flat_map f (drop i xs) ≡ whole → list' ++ flat_map f (drop (i + 1) xs) ≡ whole
list_more f xs i x list list' whole e more known =
    ap (λ l. l ++ flat_map f (drop (i + 1) xs)) more ∙ append_assoc list (f x) (flat_map f (drop (i + 1) xs))
    ∙ ap (λ l. list ++ flat_map f l) (sym (drop_at xs i x e)) ∙ known

pub list_whole : {A B : Type 0} (f : A → List B) (xs : List A) (i : ℕ) (list whole : List B) → slice_get xs i ≡ None
    → list ++ flat_map f (drop i xs) ≡ whole → list ≡ whole
list_whole f xs i list whole e known =
    sym (append-nil list) ∙ ap (λ l. list ++ flat_map f l) (sym (drop_past xs i e)) ∙ known
