-- The least of a list, found from its front.
use Rattle.std.proofs.Common.{◌≡◌, ◌<◌, ◌≤◌, ◌+◌, ℕ, Bool, true, false, List, refl, sym, ap, ◌∙◌, length, drop, get_or, nat_le, arith}
use Rattle.std.proofs.lemmas.Bool.Decides.{nat_tests}
use Rattle.std.proofs.lemmas.List.{drop_more}
use Rattle.std.proofs.Math.ListN.{drop_of_length-le}
use Rattle.std.specs.Prelude.{Option, Some, None, if◌then◌else◌}
use Rattle.std.specs.List.{enumerate_from}
use Rattle.ix_life.specs.Placing.{lesser, least}

reaches : (a b c : ℕ) → true ≡ nat_le a b → true ≡ nat_le b c → nat_le a c ≡ true
reaches a b c e f = grind (arith, nat_tests)

stays_behind : (a b c : ℕ) → false ≡ nat_le a b → false ≡ nat_le b c → nat_le a c ≡ false
stays_behind a b c e f = grind (arith, nat_tests)

-- three choices, two of which are compared first
three : {A : Type 0} (key : A → ℕ) (a b c : A) (p q : Bool) → p ≡ nat_le (key a) (key b) → q ≡ nat_le (key b) (key c)
    → lesser key (if p then Some a else Some b) (Some c) ≡ lesser key (Some a) (if q then Some b else Some c)
three key a b c true true e f = rw (reaches (key a) (key b) (key c) e f) (rw (sym e) refl)
three key a b c true false e f = refl
three key a b c false true e f = rw (sym f) (rw (sym e) refl)
three key a b c false false e f = rw (stays_behind (key a) (key b) (key c) e f) (rw (sym f) refl)

none_behind : {A : Type 0} (key : A → ℕ) (a b : A) (p : Bool) →
    lesser key (if p then Some a else Some b) None ≡ (if p then Some a else Some b)
none_behind key a b true = refl
none_behind key a b false = refl

lesser-assoc : {A : Type 0} (key : A → ℕ) (a b c : Option A) → lesser key (lesser key a b) c ≡ lesser key a (lesser key b c)
lesser-assoc key None b c = refl
lesser-assoc key (Some a) None c = refl
lesser-assoc key (Some a) (Some b) None = none_behind key a b (nat_le (key a) (key b))
lesser-assoc key (Some a) (Some b) (Some c) = three key a b c (nat_le (key a) (key b)) (nat_le (key b) (key c)) refl refl

lesser-None : {A : Type 0} (key : A → ℕ) (a : Option A) → lesser key a None ≡ a
lesser-None key None = refl
lesser-None key (Some a) = refl

-- the best so far, and one element more
more : {A : Type 0} (test : ℕ × A → Bool) (key : ℕ × A → ℕ) (best : Option (ℕ × A)) (xs : List A) (i : ℕ) (d : A) → i < length xs →
    (b : Bool) → b ≡ test (i, get_or xs i d)
    → lesser key (lesser key best (if b then Some (i, get_or xs i d) else None)) (least test key (enumerate_from (i + 1) (drop (i + 1) xs)))
    ≡ lesser key best (least test key (enumerate_from i (drop i xs)))
more test key best xs i d l b e =
    lesser-assoc key best (if b then Some (i, get_or xs i d) else None) (least test key (enumerate_from (i + 1) (drop (i + 1) xs)))
    ∙ rw (drop_more xs i d l) (rw (sym e) refl)

pub passed : {A : Type 0} (test : ℕ × A → Bool) (key : ℕ × A → ℕ) (best : Option (ℕ × A)) (xs : List A) (i : ℕ) (d : A) → i < length xs →
    test (i, get_or xs i d) ≡ true
    → (next : ℕ × A) → Some next ≡ lesser key best (Some (i, get_or xs i d)) → (whole : Option (ℕ × A)) →
    lesser key best (least test key (enumerate_from i (drop i xs))) ≡ whole
    → lesser key (Some next) (least test key (enumerate_from (i + 1) (drop (i + 1) xs))) ≡ whole
passed test key best xs i d l e next is whole known = rw is (more test key best xs i d l true (sym e) ∙ known)

pub failed : {A : Type 0} (test : ℕ × A → Bool) (key : ℕ × A → ℕ) (best : Option (ℕ × A)) (xs : List A) (i : ℕ) (d : A) → i < length xs →
    test (i, get_or xs i d) ≡ false
    → (whole : Option (ℕ × A)) → lesser key best (least test key (enumerate_from i (drop i xs))) ≡ whole
    → lesser key best (least test key (enumerate_from (i + 1) (drop (i + 1) xs))) ≡ whole
failed test key best xs i d l e whole known =
    ap (λ o. lesser key o (least test key (enumerate_from (i + 1) (drop (i + 1) xs)))) (sym (lesser-None key best))
    ∙ more test key best xs i d l false (sym e) ∙ known

pub at_end : {A : Type 0} (test : ℕ × A → Bool) (key : ℕ × A → ℕ) (best : Option (ℕ × A)) (xs : List A) (i : ℕ) → length xs ≤ i
    → (whole : Option (ℕ × A)) → lesser key best (least test key (enumerate_from i (drop i xs))) ≡ whole → best ≡ whole
at_end test key best xs i l whole known =
    sym (lesser-None key best) ∙ (let e : lesser key best None ≡ lesser key best
    (least test key (enumerate_from i (drop i xs))) = rw (drop_of_length-le xs {i = i} l) refl in e) ∙ known
