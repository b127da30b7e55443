-- The text of a field, from its front.
use Rattle.std.proofs.Common.{◌≡◌, ℕ, zero, suc, zero-add, true≢false, ◌+◌, ◌<◌, ◌≤◌, Bool, true, false, List, [], ◌∷◌, ◌++◌, length, take}
use Rattle.std.proofs.Common.{drop, get_or, cond, refl, sym, ◌∙◌, ap, subst, arith}
use Rattle.std.specs.Prelude.{Option, ◌&&◌}
use Rattle.std.specs.List.{prefix_len, list_all}
use Rattle.std.proofs.lemmas.List.{take-append-drop, append-nil, drop-drop}
use Rattle.std.proofs.lemmas.Grind.{flat_map-append}
use Rattle.std.proofs.Math.Seq.{take-add}
use Rattle.ix_export.specs.EventLine.{is_plain, escape, escaped, field}
use Rattle.ix_base.specs.Told.{HasWritten, HasBegun}
use Rattle.ix_base.proofs.ToldLemmas.{begun_of_more, then_written, then_begun}

-- the plain bytes at the front are their own text
plain-step : (x : ℕ) (xs : List ℕ) (b : Bool) → is_plain x ≡ b →
    field (take (prefix_len is_plain xs) xs) ≡ take (prefix_len is_plain xs) xs →
    field (take (cond b (1 + prefix_len is_plain xs) 0) (x ∷ xs)) ≡ take (cond b (1 + prefix_len is_plain xs) 0) (x ∷ xs)
plain-step x xs true e more =
    let n : 1 + prefix_len is_plain xs ≡ suc (prefix_len is_plain xs) = omega arith in
    rw n (rw e (ap (λ l. x ∷ l) more))
plain-step x xs false e more = refl

pub field-plain : (xs : List ℕ) → field (take (prefix_len is_plain xs) xs) ≡ take (prefix_len is_plain xs) xs
field-plain [] = refl
field-plain (x ∷ xs) = plain-step x xs (is_plain x) refl (field-plain xs)

-- the byte behind them is not plain
pub plain-stops : (xs : List ℕ) → 0 < length xs → prefix_len is_plain xs ≤ 0 → is_plain (get_or xs 0 0) ≡ false
plain-stops [] some none = absurd (omega arith)
plain-stops (x ∷ xs) some none = by (is_plain x) refl none
  where
    by : (b : Bool) → is_plain x ≡ b → cond b (1 + prefix_len is_plain xs) 0 ≤ 0 → is_plain x ≡ false
    by true e n = absurd (omega arith)
    by false e n = e

pub field-split : (n : ℕ) (xs : List ℕ) → field xs ≡ field (take n xs) ++ field (drop n xs)
field-split n xs = ap field (sym (take-append-drop n xs)) ∙ flat_map-append escaped (take n xs) (drop n xs)

pub field-take-add : (n m : ℕ) (xs : List ℕ) → field (take (n + m) xs) ≡ field (take n xs) ++ field (take m (drop n xs))
field-take-add n m xs = ap field (take-add n m xs) ∙ flat_map-append escaped (take n xs) (take m (drop n xs))

pub field-first : (xs : List ℕ) → 0 < length xs → is_plain (get_or xs 0 0) ≡ false → field (take 1 xs) ≡ escape (get_or xs 0 0)
field-first [] some e = absurd (omega arith)
field-first (x ∷ xs) some e = rw e (append-nil (escape x))

-- a front of the plain bytes at the front is one of the field
pub begun-plain : (xs : List ℕ) {x y : Option (List ℕ)} → HasBegun (take (prefix_len is_plain xs) xs) x y → HasBegun (field xs) x y
begun-plain xs {x} {y} p =
    let P : List ℕ → Type 0 = λ l. HasBegun l x y in
    let n : ℕ = prefix_len is_plain xs in
    subst P (sym (field-split n xs ∙ ap (λ l. l ++ field (drop n xs)) (field-plain xs))) (begun_of_more (field (drop n xs)) p)

-- the plain bytes at the front
pub written-plain : (n : ℕ) (xs : List ℕ) {x y : Option (List ℕ)} → n ≡ prefix_len is_plain xs → HasWritten (take n xs) x y →
    HasWritten (field (take n xs)) x y
written-plain n xs {x} {y} is p =
    let P : List ℕ → Type 0 = λ l. HasWritten l x y in
    subst P (sym (ap (λ k. field (take k xs)) is ∙ field-plain xs ∙ ap (λ k. take k xs) (sym is))) p

-- a front of the field's front
pub begun-front : (n : ℕ) (xs : List ℕ) {x y : Option (List ℕ)} → HasBegun (field (take n xs)) x y → HasBegun (field xs) x y
begun-front n xs {x} {y} p =
    let P : List ℕ → Type 0 = λ l. HasBegun l x y in
    subst P (sym (field-split n xs)) (begun_of_more (field (drop n xs)) p)

-- behind the first n bytes of a field, the next m
pub written-next : (n m : ℕ) (xs : List ℕ) {x y z : Option (List ℕ)} →
    HasWritten (field (take n xs)) x y → HasWritten (field (take m (drop n xs))) y z → HasWritten (field (take (n + m) xs)) x z
written-next n m xs {x} {y} {z} p q =
    let P : List ℕ → Type 0 = λ l. HasWritten l x z in
    subst P (sym (field-take-add n m xs)) (then_written p q)

-- behind the first n bytes of a field, a front of the rest
pub begun-next : (n : ℕ) (xs : List ℕ) {x y z : Option (List ℕ)} →
    HasWritten (field (take n xs)) x y → HasBegun (field (drop n xs)) y z → HasBegun (field xs) x z
begun-next n xs {x} {y} {z} p q =
    let P : List ℕ → Type 0 = λ l. HasBegun l x z in
    subst P (sym (field-split n xs)) (then_begun p q)

-- behind bytes that are all plain the count goes on
pub plain-more : (n : ℕ) (xs : List ℕ) → n ≤ length xs → list_all is_plain (take n xs) ≡ true →
    prefix_len is_plain xs ≡ n + prefix_len is_plain (drop n xs)
plain-more zero xs within all = sym (zero-add (prefix_len is_plain xs))
plain-more (suc n) [] within all = absurd (omega (arith, within))
plain-more (suc n) (x ∷ xs) within all = by (is_plain x) refl all (plain-more n xs (omega (arith, within)))
  where
    by : (b : Bool) → is_plain x ≡ b → (b && list_all is_plain (take n xs)) ≡ true →
        (list_all is_plain (take n xs) ≡ true → prefix_len is_plain xs ≡ n + prefix_len is_plain (drop n xs)) →
        cond b (1 + prefix_len is_plain xs) 0 ≡ suc n + prefix_len is_plain (drop n xs)
    by true e rest f = omega (arith, f rest)
    by false e rest f = absurd (true≢false (sym rest))

-- behind a plain chunk the count goes on
pub plain-on : (at n : ℕ) (xs rest : List ℕ) → rest ≡ drop at xs → prefix_len is_plain xs ≡ at + prefix_len is_plain (drop at xs) →
    prefix_len is_plain rest ≡ n + prefix_len is_plain (drop n rest) →
    prefix_len is_plain xs ≡ at + n + prefix_len is_plain (drop (at + n) xs)
plain-on at n xs rest is before more =
    let P : List ℕ → Type 0 = λ l. prefix_len is_plain l ≡ n + prefix_len is_plain (drop n l) in
    omega (arith, before, subst P is more, ap (λ l. prefix_len is_plain l) (drop-drop n at xs))
