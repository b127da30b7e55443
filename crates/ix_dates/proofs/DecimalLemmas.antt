-- A number is what its digits come to.
use Rattle.std.proofs.Common.{◌≡◌, ℕ, ◌+◌, ◌-◌, ◌*◌, ◌^◌, ◌≤◌, ◌<◌, true, false, cond, List, [], ◌∷◌, ◌++◌, length, Some, None, refl, sym}
use Rattle.std.proofs.Common.{ap, ◌∙◌, mul_assoc, add-mul, pow-suc, subst, arith}
use Rattle.std.proofs.lemmas.Bool.{and_parts}
use Rattle.std.proofs.lemmas.Bool.Decides.{nat_tests}
use Rattle.std.specs.Prelude.{◌&&◌, nat_le, nat_lt, MatchOption}
use Rattle.std.specs.Char.{is_ascii_digit}
use Rattle.std.specs.List.{AllByRecursion}
use Rattle.ix_dates.specs.Text.{digits, number}
use Rattle.ix_dates.specs.Laws.{IsDigit, Numbers, NumbersAreDecimal, begins_with_digit, decimal}

-- digits that go on a number
record Goes (most value count : ℕ) (text : List ℕ) (d : ℕ × ℕ × List ℕ) : Type 0 where
  ds : List ℕ
  whole : text ≡ ds ++ d.2
  all : AllByRecursion IsDigit ds
  counted : d.1 ≡ count + length ds
  few : count ≤ most → d.1 ≤ most
  stops : d.1 < most → begins_with_digit d.2 ≡ false
  comes : d.0 ≡ value * 10 ^ length ds + decimal ds

-- one digit more before them
one_digit : (value x p rest : ℕ) → (value * 10 + x) * p + rest ≡ value * (p * 10) + (x * p + rest)
one_digit value x p rest =
    let parts = add-mul (value * 10) x p in
    let turned = mul_assoc value 10 p in
    let swapped : 10 * p ≡ p * 10 = omega arith in
    rw (parts, turned, swapped) (omega arith)

goes_one : (most value count b : ℕ) (rest : List ℕ) (d : ℕ × ℕ × List ℕ) → is_ascii_digit b ≡ true → count < most →
    Goes most (value * 10 + (b - 48)) (count + 1) rest d → Goes most value count (b ∷ rest) d
unfolding decimal
goes_one most value count b rest d digit room g = record {
  ds = b ∷ g.ds;
  whole = ap (λ t. b ∷ t) g.whole;
  all = (digit, g.all);
  counted = let e = g.counted in omega arith;
  few = λ low. g.few (omega arith);
  stops = g.stops;
  comes = g.comes ∙ (rw (pow-suc 10 (length g.ds)) (one_digit value (b - 48) (10 ^ length g.ds) (decimal g.ds)));
}

-- where no more are taken
goes_none : (most value count b : ℕ) (rest : List ℕ) → (is_ascii_digit b && nat_lt count most) ≡ false →
    Goes most value count (b ∷ rest) (value, count, b ∷ rest)
unfolding decimal
goes_none most value count b rest shut = record {
  ds = [];
  whole = refl;
  all = tt;
  counted = omega arith;
  few = λ low. low;
  stops = λ room. elim (is_ascii_digit b) as (λ t. (t && nat_lt count most) ≡ false → t ≡ false) [
    | true ↦ λ e. grind (arith, nat_tests)
    | false ↦ λ e. refl
  ] shut;
  comes = omega arith;
}

digits_go : (most value count : ℕ) (text : List ℕ) → Goes most value count text (digits most value count text)
unfolding digits decimal
digits_go most value count [] = record {
  ds = [];
  whole = refl;
  all = tt;
  counted = omega arith;
  few = λ low. low;
  stops = λ room. refl;
  comes = omega arith;
}
digits_go most value count (b ∷ rest) =
    elim (is_ascii_digit b && nat_lt count most) as (λ t. (is_ascii_digit b && nat_lt count most) ≡ t →
    Goes most value count (b ∷ rest) (cond t (digits most (value * 10 + (b - 48)) (count + 1) rest) (value, count, b ∷ rest))) [
      | true ↦ λ e. let parts = and_parts _ _ e in goes_one most value count b rest _ parts.0 (grind (arith, nat_tests, parts.1))
          (digits_go most (value * 10 + (b - 48)) (count + 1) rest)
      | false ↦ λ e. goes_none most value count b rest e
    ] refl

-- no more digits stand there than are taken
longest : (most value count : ℕ) (ds rest : List ℕ) → AllByRecursion IsDigit ds → count + length ds ≤ most →
    count + length ds ≤ (digits most value count (ds ++ rest)).1
unfolding digits
longest most value count [] rest all low =
    let g = digits_go most value count rest in
    let e = g.counted in
    omega arith
longest most value count (b ∷ ds) rest all low =
    let room : nat_lt count most ≡ true = grind (arith, nat_tests) in
    let more = longest most (value * 10 + (b - 48)) (count + 1) ds rest all.1 (omega arith) in
    rw (all.0, room) (omega arith)

-- numbers are what the law says
number_reads : (least most : ℕ) (text : List ℕ) (d : ℕ × ℕ × List ℕ) → Goes most 0 0 text d → nat_le least d.1 ≡ true →
    Numbers least most text d.0 d.2
number_reads least most text d g many = record {
  digits = g.ds;
  whole = g.whole;
  all = g.all;
  enough = let e = g.counted in grind (arith, nat_tests);
  few = let e = g.counted in let low = g.few (omega arith) in omega arith;
  stops = λ room. g.stops (let e = g.counted in omega arith);
  value_is = g.comes ∙ omega arith;
}

pub numbers : NumbersAreDecimal
unfolding number
numbers least most text =
    elim (nat_le least (digits most 0 0 text).1) as (λ t. nat_le least (digits most 0 0 text).1 ≡ t →
    MatchOption {T = ℕ × List ℕ} (cond t (Some ((digits most 0 0 text).0, (digits most 0 0 text).2)) None)
    ((value : ℕ) (rest : List ℕ) → Numbers least most text value rest → ⊥) (λ p. Numbers least most text p.0 p.1)) [
      | true ↦ λ e. number_reads least most text (digits most 0 0 text) (digits_go most 0 0 text) e
      | false ↦ λ e value rest n.
          let low = n.few in
          let enough = n.enough in
          let long = longest most 0 0 n.digits rest n.all (omega arith) in
          let same : 0 + length n.digits ≤ (digits most 0 0 text).1 =
          subst (λ t. 0 + length n.digits ≤ (digits most 0 0 t).1) (sym n.whole) long in
          let short : (digits most 0 0 text).1 < least = grind (arith, nat_tests) in
          absurd (omega arith)
    ] refl
