-- A time of the query is a number that an `i64` holds.
use Rattle.std.proofs.Common.{◌≡◌, ℕ, ◌<◌, ◌≤◌, List, [], ◌∷◌, Bool, true, false, length, cond, zero, suc, refl, ap, arith}
use Rattle.std.specs.Prelude.{◌&&◌, ◌==◌, nat_le, pos, neg_ℤ, FitsSigned}
use Rattle.std.specs.List.{list_all}
use Rattle.std.specs.Int.{w64}
use Rattle.std.specs.Int.RustNames.{unsigned_abs}
use Rattle.std.specs.Char.{is_ascii_digit, digit_value}
use Rattle.std.specs.Str.Parse.{AllDigits, IsNumeral, digits_value, signed_digits_value, starts_with_minus, without_leading_sign}
use Rattle.std.proofs.lemmas.Int.{fits_signed_from_abs}
use Rattle.std.proofs.lemmas.Str.Parse.{IsNumeralModel, digits_value_short}
use Rattle.std.proofs.lemmas.Bool.Decides.{nat_tests}
use Rattle.ix_http.specs.Ranges.{digits_in, is_time}

-- both of two tests
pub both : (a b : Bool) → (a && b) ≡ true → (a ≡ true) × (b ≡ true)
both true b h = (refl, h)
both false b h = cc

pub digit_small : (b : ℕ) → is_ascii_digit b ≡ true → digit_value b < 10
digit_small b h = grind (arith, nat_tests)

pub all_digits : (ds : List ℕ) → list_all is_ascii_digit ds ≡ true → AllDigits 10 ds
all_digits [] h = tt
all_digits (d ∷ ds) h = let p = both (is_ascii_digit d) (list_all is_ascii_digit ds) h in (digit_small d p.0, all_digits ds p.1)

pub abs_neg : (n : ℕ) → unsigned_abs (neg_ℤ (pos n)) ≡ n
abs_neg zero = refl
abs_neg (suc n) = refl

pub abs_sign : (b : Bool) (n : ℕ) → unsigned_abs (cond b (neg_ℤ (pos n)) (pos n)) ≡ n
abs_sign true n = abs_neg n
abs_sign false n = refl

pub plus_is_none : (c : ℕ) → is_ascii_digit c ≡ true → (c == 43) ≡ false
plus_is_none c h = grind (arith, nat_tests)

pub sign_is : (text : List ℕ) → is_time text ≡ true → without_leading_sign text ≡ digits_in text
sign_is [] h = cc
sign_is (c ∷ cs) h = go (c == 45) refl h
  where
    go : (m : Bool) → (c == 45) ≡ m → is_time (c ∷ cs) ≡ true → without_leading_sign (c ∷ cs) ≡ digits_in (c ∷ cs)
    go true e t = rw e refl
    go false e t =
        let all = (both _ _ (both _ _ (rw e at t)).1).1 in
        let digit = (both (is_ascii_digit c) (list_all is_ascii_digit cs) all).0 in
        rw (e, plus_is_none c digit) refl

pub own : IsNumeralModel (AllDigits 10) (digits_value 10)
own = record { to = λ _ h. h; from = λ _ h. h; same = λ _ _. refl }

pub parses : (text : List ℕ) → is_time text ≡ true → IsNumeral 10 (without_leading_sign text) × FitsSigned w64 (signed_digits_value 10 text)
parses text h =
    let some = both (nat_le 1 (length (digits_in text))) _ h in
    let short = both (nat_le (length (digits_in text)) 11) _ some.1 in
    let all = all_digits (digits_in text) short.1 in
    let value = digits_value_short own (digits_in text) 11 all (le_from (length (digits_in text)) 11 short.0) in
    let same = sign_is text h in
    let size = ap (digits_value 10) same in (
      rw same ((le_from 1 (length (digits_in text)) some.0, all)),
      fits_signed_from_abs w64 _ (rw (abs_sign (starts_with_minus text) (digits_value 10 (without_leading_sign text)))
          (omega (arith, size, value))),
    )
  where
    le_from : (m n : ℕ) → nat_le m n ≡ true → m ≤ n
    le_from m n t = grind (arith, nat_tests)
