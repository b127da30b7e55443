-- Decimal digits.
use Rattle.std.proofs.Common.{◌≡◌, ℕ, ◌+◌, ◌-◌, ◌*◌, ◌/◌, ◌%◌, ◌<◌, List, [], ◌∷◌, ◌≤◌, ◌&&◌, ◌||◌, Bool, true, false, not, cond, refl, sym}
use Rattle.std.proofs.Common.{ap, ◌∙◌, arith}
use Rattle.std.specs.Prelude.{Some, None, nat_le, ◌==◌}
use Rattle.std.specs.Char.{is_ascii_digit}
use Rattle.std.proofs.lemmas.Bool.Decides.{nat_tests}
use Rattle.std.proofs.lemmas.Nat.{mod_below}
use Rattle.std.proofs.Math.Nat.{mod-add-div, mod-eq_of_lt, div-one}
use native.Mathlib.Nat.{div-div-eq-div-mul}
use Rattle.httparse.specs.Grammar.{is_ows, is_value_byte}
use Rattle.ix_heads.specs.Lengths.{more_digits, ten_digits}
use Rattle.indexd_selftest.specs.Lines.{digit}
use Rattle.indexd_selftest.specs.Requests.{four}

below_ten : (n : ℕ) → n % 10 < 10
below_ten n = mod_below n 10 (omega arith)

le_true : (a b : ℕ) → a ≤ b → nat_le a b ≡ true
le_true a b le = grind (arith, nat_tests)

other_false : (a b : ℕ) → b < a → (a == b) ≡ false
other_false a b above = grind (arith, nat_tests)

below_false : (a b : ℕ) → a < b → (a == b) ≡ false
below_false a b below = grind (arith, nat_tests)

and_true : (a b : Bool) → a ≡ true → b ≡ true → (a && b) ≡ true
and_true true b x y = y
and_true false b x y = cc

or_false : (a b : Bool) → a ≡ false → b ≡ false → (a || b) ≡ false
or_false false b x y = y
or_false true b x y = cc

or_true : (a b : Bool) → b ≡ true → (a || b) ≡ true
or_true true b x = refl
or_true false b x = x

not_true : (a : Bool) → a ≡ false → not a ≡ true
not_true false x = refl
not_true true x = cc

small_is_digit : (r : ℕ) → r < 10 → is_ascii_digit (48 + r) ≡ true
small_is_digit r below =
    and_true (nat_le 48 (48 + r)) (nat_le (48 + r) 57) (le_true 48 (48 + r) (omega arith)) (le_true (48 + r) 57 (omega (arith, below)))

small_no_space : (r : ℕ) → r < 10 → is_ows (48 + r) ≡ false
small_no_space r below =
    or_false ((48 + r) == 32) ((48 + r) == 9) (other_false (48 + r) 32 (omega arith)) (other_false (48 + r) 9 (omega arith))

small_is_value : (r : ℕ) → r < 10 → is_value_byte (48 + r) ≡ true
small_is_value r below =
    or_true ((48 + r) == 9) (nat_le 32 (48 + r) && not ((48 + r) == 127))
    (and_true (nat_le 32 (48 + r)) (not ((48 + r) == 127)) (le_true 32 (48 + r) (omega arith))
    (not_true ((48 + r) == 127) (below_false (48 + r) 127 (omega (arith, below)))))

pub digit_no_space : (worth n : ℕ) → is_ows (digit worth n) ≡ false
digit_no_space worth n = small_no_space (n / worth % 10) (below_ten (n / worth))

pub digit_is_value : (worth n : ℕ) → is_value_byte (digit worth n) ≡ true
digit_is_value worth n = small_is_value (n / worth % 10) (below_ten (n / worth))

-- ---- the number of four digits

if-true : {A : Type 0} (b : Bool) (x y : A) → b ≡ true → cond b x y ≡ x
if-true true x y e = refl
if-true false x y e = cc

more_step : (n r : ℕ) (bs : List ℕ) → r < 10 → more_digits n ((48 + r) ∷ bs) ≡ more_digits (n * 10 + r) bs
more_step n r bs below =
    let back : (48 + r) - 48 ≡ r = omega arith in
    if-true (is_ascii_digit (48 + r)) (more_digits (n * 10 + ((48 + r) - 48)) bs) None (small_is_digit r below)
    ∙ ap (λ (k : ℕ). more_digits (n * 10 + k) bs) back

sum_is : (n t h k a b c d : ℕ) → d + 10 * t ≡ n → c + 10 * h ≡ t → b + 10 * k ≡ h → a ≡ k →
    (((0 * 10 + a) * 10 + b) * 10 + c) * 10 + d ≡ n
sum_is n t h k a b c d ones tens hundreds thousands = omega (arith, ones, tens, hundreds, thousands)

small_thousands : (n t h k b c d : ℕ) → d + 10 * t ≡ n → c + 10 * h ≡ t → b + 10 * k ≡ h → n < 10000 → k < 10
small_thousands n t h k b c d ones tens hundreds below = omega (arith, ones, tens, hundreds, below)

pub four_value : (n : ℕ) → n < 10000 → ten_digits (four n) ≡ Some n
four_value n below =
    let whole : n / 1 ≡ n = div-one n in
    let ones : n / 1 % 10 + 10 * (n / 10) ≡ n = ap (λ (m : ℕ). m % 10 + 10 * (n / 10)) whole ∙ mod-add-div n 10 in
    let tens : n / 10 % 10 + 10 * (n / 100) ≡ n / 10 =
    ap (λ (m : ℕ). n / 10 % 10 + 10 * m) (sym (div-div-eq-div-mul n 10 10)) ∙ mod-add-div (n / 10) 10 in
    let hundreds : n / 100 % 10 + 10 * (n / 1000) ≡ n / 100 =
    ap (λ (m : ℕ). n / 100 % 10 + 10 * m) (sym (div-div-eq-div-mul n 100 10)) ∙ mod-add-div (n / 100) 10 in
    let small : n / 1000 < 10 = small_thousands n (n / 10) (n / 100) (n / 1000) _ _ _ ones tens hundreds below in
    let thousands : n / 1000 % 10 ≡ n / 1000 = mod-eq_of_lt small in
    more_step 0 (n / 1000 % 10) (digit 100 n ∷ digit 10 n ∷ digit 1 n ∷ []) (below_ten (n / 1000))
    ∙ more_step (0 * 10 + n / 1000 % 10) (n / 100 % 10) (digit 10 n ∷ digit 1 n ∷ []) (below_ten (n / 100))
    ∙ more_step ((0 * 10 + n / 1000 % 10) * 10 + n / 100 % 10) (n / 10 % 10) (digit 1 n ∷ [])
    (below_ten (n / 10))
    ∙ more_step (((0 * 10 + n / 1000 % 10) * 10 + n / 100 % 10) * 10 + n / 10 % 10) (n / 1 % 10) []
    (below_ten (n / 1))
    ∙ ap Some (sum_is n (n / 10) (n / 100) (n / 1000) _ _ _ _ ones tens hundreds thousands)
