-- What `parse` makes of numbers and times.
use Rattle.std.proofs.Common.{◌≡◌, Result, Ok, Err, None, ℕ, ◌^◌, ◌<◌, ◌≤◌, List, [], ◌∷◌, Bool, true, false, length, cond, zero, suc}
use Rattle.std.proofs.Common.{refl, ap, arith}
use Rattle.std.specs.Result.{result_ok}
use Rattle.std.specs.Prelude.{◌&&◌, ◌==◌, nat_le, pos, neg_ℤ, FitsSigned}
use Rattle.std.specs.List.{list_all}
use Rattle.std.specs.Int.{w64}
use Rattle.std.specs.Int.RustNames.{unsigned_abs}
use Rattle.std.specs.Char.{is_ascii_digit, digit_value}
use Rattle.std.specs.Str.Parse.{AllDigits, IsNumeral, digits_value, ParsesUnsigned, signed_digits_value, starts_with_minus}
use Rattle.std.specs.Str.Parse.{without_leading_sign, without_leading_plus}
use Rattle.std.proofs.lemmas.Int.{fits_signed_from_abs}
use Rattle.std.proofs.lemmas.Str.Parse.{IsNumeralModel, digits_value_short, parse_digits}
use Rattle.std.proofs.lemmas.Bool.Decides.{nat_tests}
use Rattle.indexd_cli.specs.Values.{behind_minus, is_number, is_time, number_in}

-- both of two tests
pub both : (a b : Bool) → (a && b) ≡ true → (a ≡ true) × (b ≡ true)
both true b h = (refl, h)
both false b h = cc

le_from : (m n : ℕ) → nat_le m n ≡ true → m ≤ n
le_from m n t = grind (arith, nat_tests)

digit_small : (b : ℕ) → is_ascii_digit b ≡ true → digit_value b < 10
digit_small b h = grind (arith, nat_tests)

pub all_digits : (ds : List ℕ) → list_all is_ascii_digit ds ≡ true → AllDigits 10 ds
all_digits [] h = tt
all_digits (d ∷ ds) h = let p = both (is_ascii_digit d) (list_all is_ascii_digit ds) h in (digit_small d p.0, all_digits ds p.1)

-- what std's lemmas on numerals ask for
pub numerals : IsNumeralModel (AllDigits 10) (digits_value 10)
numerals = record { to = λ _ h. h; from = λ _ h. h; same = λ _ _. refl }

no_plus : (c : ℕ) → is_ascii_digit c ≡ true → (c == 43) ≡ false
no_plus c h = grind (arith, nat_tests)

-- a number is a numeral, and no plus stands before it
pub number_facts : (text : List ℕ) → is_number text ≡ true →
    (0 < length text) × AllDigits 10 text × (without_leading_plus text ≡ text)
number_facts [] h = cc
number_facts (c ∷ cs) h =
    let some = both (nat_le 1 (length (c ∷ cs))) _ h in
    let all = both (list_all is_ascii_digit (c ∷ cs)) _ some.1 in
    let first = both (is_ascii_digit c) (list_all is_ascii_digit cs) all.0 in
    (le_from 1 (length (c ∷ cs)) some.0, all_digits (c ∷ cs) all.0, rw (no_plus c first.0) refl)

-- a number that an unsigned type has no room for lies outside every range of that type
pub too_large : {E : Type 0} → (text : List ℕ) (least most : ℕ) (r : Result ℕ E) → is_number text ≡ true → most < 2 ^ 64 →
    ParsesUnsigned 64 10 text r → result_ok r ≡ None → number_in least most text ≡ None
unfolding number_in
too_large text least most (Ok n) number fits parses err = cc
too_large text least most (Err e) number fits parses err =
    let facts = number_facts text number in
    let large : ¬ (digits_value 10 text < 2 ^ 64) = λ small. parse_digits numerals 64 text (Err e) parses facts.1 (facts.0, small) in
    let above : nat_le (digits_value 10 text) most ≡ false = grind (arith, nat_tests, large) in
    rw (number, above, and_false) refl
  where
    and_false : (b : Bool) → (b && false) ≡ false
    and_false true = refl
    and_false false = refl

abs_neg : (n : ℕ) → unsigned_abs (neg_ℤ (pos n)) ≡ n
abs_neg zero = refl
abs_neg (suc n) = refl

abs_sign : (b : Bool) (n : ℕ) → unsigned_abs (cond b (neg_ℤ (pos n)) (pos n)) ≡ n
abs_sign true n = abs_neg n
abs_sign false n = refl

sign_is : (text : List ℕ) → is_time text ≡ true → without_leading_sign text ≡ behind_minus text
sign_is [] h = cc
sign_is (c ∷ cs) h = go (c == 45) refl h
  where
    go : (m : Bool) → (c == 45) ≡ m → is_time (c ∷ cs) ≡ true → without_leading_sign (c ∷ cs) ≡ behind_minus (c ∷ cs)
    go true e t = rw e refl
    go false e t =
        let all = (both _ _ (both _ _ (rw e at t)).1).1 in
        let digit = (both (is_ascii_digit c) (list_all is_ascii_digit cs) all).0 in
        rw (e, no_plus c digit) refl

-- a time is a number that an `i64` holds
pub time_parses : (text : List ℕ) → is_time text ≡ true → IsNumeral 10 (without_leading_sign text)
    × FitsSigned w64 (signed_digits_value 10 text)
time_parses text h =
    let some = both (nat_le 1 (length (behind_minus text))) _ h in
    let short = both (nat_le (length (behind_minus text)) 11) _ some.1 in
    let all = all_digits (behind_minus text) short.1 in
    let value = digits_value_short numerals (behind_minus text) 11 all (le_from (length (behind_minus text)) 11 short.0) in
    let same = sign_is text h in
    let size = ap (digits_value 10) same in (
      rw same ((le_from 1 (length (behind_minus text)) some.0, all)),
      fits_signed_from_abs w64 _ (rw (abs_sign (starts_with_minus text) (digits_value 10 (without_leading_sign text)))
          (omega (arith, size, value))),
    )
