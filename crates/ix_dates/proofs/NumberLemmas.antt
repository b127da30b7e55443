-- Bounds on numbers that are read digit by digit.
use Rattle.std.proofs.Common.{◌≡◌, ℕ, ◌+◌, ◌-◌, ◌*◌, ◌^◌, ◌≤◌, ◌<◌, suc-mul, mul-le-mul_right, lt_of_lt_of_le, subst, arith}
use Rattle.std.proofs.Math.Nat.{one-le-pow, pow-le-pow_right}
use Rattle.std.proofs.lemmas.Grind.{pow_more}
use Rattle.std.proofs.lemmas.Nat.{pow-add}

-- one more digit
pub one_more : (value count digit : ℕ) → value < 10 ^ count → digit < 10 → value * 10 + digit < 10 ^ (count + 1)
one_more value count digit small one = omega (arith, pow_more 10 count)

-- a number of so many digits is below that of more
pub power_grows : (value count most : ℕ) → value < 10 ^ count → count ≤ most → value < 10 ^ most
power_grows value count most small few = lt_of_lt_of_le small (pow-le-pow_right (omega arith) few)

-- a number of at most eleven digits
pub fits : (value count : ℕ) → value < 10 ^ count → count ≤ 11 → value < 100_000_000_000
fits value count small few = power_grows value count 11 small few

-- a fraction that is filled up to nine digits
pub filled_up : (value count : ℕ) → value < 10 ^ count → count ≤ 9 → value * 10 ^ (9 - count) < 1_000_000_000
filled_up value count small few =
    let whole : count + (9 - count) ≡ 9 = omega arith in
    let parts : 10 ^ 9 ≡ 10 ^ count * 10 ^ (9 - count) =
    subst (λ n. 10 ^ n ≡ 10 ^ count * 10 ^ (9 - count)) whole (pow-add 10 count (9 - count)) in
    let some = one-le-pow (9 - count) 10 (omega arith) in
    let more = mul-le-mul_right (10 ^ (9 - count)) small in
    let next = suc-mul value (10 ^ (9 - count)) in
    omega arith
