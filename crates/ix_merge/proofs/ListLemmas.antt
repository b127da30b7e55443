-- Lists with one more member.
use Rattle.std.proofs.Common.{◌≡◌, ℕ, ◌-◌, Bool, true, cond, List, [], ◌∷◌, ◌++◌, length, take, find, Some, refl, sym, ◌∙◌, ap, arith}
use Rattle.std.proofs.Common.{append_assoc, length-append}
use Rattle.std.specs.List.{join_with_byte}
use Rattle.std.proofs.lemmas.List.{reverse-append}
use Rattle.std.proofs.Math.Seq.{take-append_seam}
use Rattle.ix_merge.specs.Starts.{last, last_that}
use Rattle.ix_merge.specs.Events.{all_but_last}

pub last-more : {A : Type 0} (xs : List A) (x : A) → last (xs ++ x ∷ []) ≡ Some x
last-more xs x = ap (find (λ y. true)) (reverse-append xs (x ∷ []))

pub last_that-more : {A : Type 0} (test : A → Bool) (xs : List A) (x : A) →
    last_that test (xs ++ x ∷ []) ≡ cond (test x) (Some x) (last_that test xs)
last_that-more test xs x = ap (find test) (reverse-append xs (x ∷ []))

pub all_but_last-more : {A : Type 0} (xs : List A) (x : A) → all_but_last (xs ++ x ∷ []) ≡ xs
all_but_last-more xs x =
    let e : length (xs ++ x ∷ []) - 1 ≡ length xs = omega (arith, length-append xs (x ∷ [])) in
    ap (λ n. take n (xs ++ x ∷ [])) e ∙ take-append_seam xs (x ∷ [])

pub join-more : (c : ℕ) (x : List ℕ) (xs : List (List ℕ)) (y : List ℕ) →
    join_with_byte c (x ∷ (xs ++ y ∷ [])) ≡ join_with_byte c (x ∷ xs) ++ c ∷ y
join-more c x [] y = refl
join-more c x (z ∷ zs) y =
    ap (λ l. x ++ (c ∷ l)) (join-more c z zs y) ∙ sym (append_assoc x (c ∷ join_with_byte c (z ∷ zs)) (c ∷ y))
