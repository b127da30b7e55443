-- How often a number stands in a list, and what a list in order says of that; sums up to a bound.
use Rattle.std.proofs.Common.{◌≡◌, ◌≢◌, ◌⊎◌, inl, inr, ℕ, zero, suc, ◌+◌, ◌-◌, ◌<◌, ◌≤◌, ◌^◌, List, [], ◌∷◌, ◌++◌, Bool, true, false, take}
use Rattle.std.proofs.Common.{length, get_or, refl, ap, subst, ◌∙◌, arith}
use Rattle.std.specs.Prelude.{◌==◌, cond}
use Rattle.std.specs.List.{count_by}
use Rattle.std.specs.List.Sorted.{IsPermutation, IsNonDecreasing}
use Rattle.std.proofs.lemmas.Bool.Decides.{nat_tests}
use Rattle.std.proofs.lemmas.List.{take_all, get_or-take, length-take-le}
use Rattle.std.proofs.lemmas.List.Sums.{sum_by_more, sum_by-take-le, sum_by_push, get_or-le-sum_by}
use Rattle.std.proofs.lemmas.List.Sorted.{sum_by-IsPermutation}
use Rattle.ix_replay.specs.Amounts.{most}
use Rattle.ix_replay.specs.Bounds.{AreApart}
use Rattle.ix_replay.specs.declared.amounts.Amount.{Amount}
use Rattle.ix_replay.specs.declared.amounts.Amount.TheVariants as amounts

abbrev pub mark : ℕ → ℕ → ℕ
mark n m = cond (m == n) 1 0

abbrev pub often : List ℕ → ℕ → ℕ
often numbers n = count_by (λ m. m == n) numbers

marks : (n m : ℕ) → ((m ≡ n) × (mark n m ≡ 1)) ⊎ ((m ≢ n) × (mark n m ≡ 0))
marks n m = go (m == n) refl
  where
    go : (test : Bool) → (m == n) ≡ test → ((m ≡ n) × (mark n m ≡ 1)) ⊎ ((m ≢ n) × (mark n m ≡ 0))
    go true is = inl (grind (arith, nat_tests), ap (λ t. cond t 1 0) is)
    go false is = inr ((λ same. grind (arith, nat_tests)), ap (λ t. cond t 1 0) is)

pub often_push : (numbers : List ℕ) (m n : ℕ) → often (numbers ++ m ∷ []) n ≡ often numbers n + mark n m
often_push numbers m n = sum_by_push (mark n) numbers m

pub often_moved : (xs ys : List ℕ) (n : ℕ) → IsPermutation xs ys → often ys n ≡ often xs n
often_moved xs ys n moved = sum_by-IsPermutation (mark n) xs ys moved

often_more : (numbers : List ℕ) (i n : ℕ) → i < length numbers →
    often (take (i + 1) numbers) n ≡ often (take i numbers) n + mark n (get_or numbers i 0)
often_more numbers i n within = sum_by_more (mark n) numbers i 0 within

-- ---- numbers in order

-- the numbers before a place differ, and are below the least one that may come next; none is `next`
-- or above
pub record IsRising (numbers : List ℕ) (next i least : ℕ) : Type 0 where
  pub within : i ≤ length numbers
  pub from : 1 ≤ least
  pub apart : AreApart (often (take i numbers)) least
  pub under : (n : ℕ) → next ≤ n → often (take i numbers) n ≤ 0
  pub first : i ≡ 0 → least ≡ 1
  pub last : 0 < i → get_or numbers (i - 1) 0 + 1 ≡ least

pub rising_none : (numbers : List ℕ) (next : ℕ) → IsRising numbers next 0 1
rising_none numbers next = record {
  within = omega arith;
  from = omega arith;
  apart = record { one_each = λ n. omega arith; from_one = omega arith; below = λ n least. omega arith };
  under = λ n least. omega arith;
  first = λ none. refl;
  last = λ some. absurd (omega (arith, some));
}

module _ (numbers : List ℕ) (next i least : ℕ) (rising : IsRising numbers next i least) (within : i < length numbers) where
  abbrev number : ℕ
  number = get_or numbers i 0

  pub rising_more : least ≤ get_or numbers i 0 → get_or numbers i 0 < next → IsRising numbers next (i + 1) (get_or numbers i 0 + 1)
  rising_more low high = record {
    within = omega (arith, within);
    from = omega arith;
    apart = record {
      one_each = λ n. each n (marks n number);
      from_one = zero_not (marks 0 number);
      below = λ n above. other n (marks n number) (rising.apart.below n (omega (arith, low, above))) (omega (arith, above));
    };
    under = λ n above. other n (marks n number) (rising.under n above) (omega (arith, high, above));
    first = λ none. absurd (omega (arith, none));
    last = λ some. ap (λ (k : ℕ). get_or numbers k 0 + 1) (omega arith);
  }
    where
      more : (n : ℕ) → often (take (i + 1) numbers) n ≡ often (take i numbers) n + mark n number
      more n = often_more numbers i n within

      each : (n : ℕ) → ((number ≡ n) × (mark n number ≡ 1)) ⊎ ((number ≢ n) × (mark n number ≡ 0)) → often (take (i + 1) numbers) n ≤ 1
      each n (inl is) =
          let none = rising.apart.below n (omega (arith, low, is.0)) in
          omega (arith, more n, is.1, none)
      each n (inr not) =
          let one = rising.apart.one_each n in
          omega (arith, more n, not.1, one)

      other : (n : ℕ) → ((number ≡ n) × (mark n number ≡ 1)) ⊎ ((number ≢ n) × (mark n number ≡ 0)) → often (take i numbers) n ≤ 0 →
          number < n → often (take (i + 1) numbers) n ≤ 0
      other n (inl is) none above = absurd (omega (arith, is.0, above))
      other n (inr not) none above = omega (arith, more n, not.1, none)

      zero_not : ((number ≡ 0) × (mark 0 number ≡ 1)) ⊎ ((number ≢ 0) × (mark 0 number ≡ 0)) → often (take (i + 1) numbers) 0 ≤ 0
      zero_not (inl is) =
          let from = rising.from in
          absurd (omega (arith, is.0, low, from))
      zero_not (inr not) =
          let none = rising.apart.from_one in
          omega (arith, more 0, not.1, none)

  -- a number below the least that may come stood already, or is 0; one above the last that may come
  -- is one too many
  mine : mark number number ≡ 1
  mine = go (marks number number)
    where
      go : ((number ≡ number) × (mark number number ≡ 1)) ⊎ ((number ≢ number) × (mark number number ≡ 0)) → mark number number ≡ 1
      go (inl is) = is.1
      go (inr not) = absurd (not.0 refl)

  there : 1 ≤ often numbers number
  there =
      let one = get_or-le-sum_by (mark number) numbers i 0 within in
      omega (arith, one, mine)

  pub not_above : next ≤ get_or numbers i 0 → AreApart (often numbers) next → ⊥
  not_above above apart =
      let none = apart.below number above in
      omega (arith, none, there)

  pub not_below : IsNonDecreasing numbers → get_or numbers i 0 < least → AreApart (often numbers) next → ⊥
  not_below sorted low apart = go i refl
    where
      go : (k : ℕ) → i ≡ k → ⊥
      go zero is =
          let one = rising.first is in
          let none = apart.from_one in
          let zero : number ≡ 0 = omega (arith, one, low) in
          let some = subst (λ (n : ℕ). 1 ≤ often numbers n) zero there in
          omega (arith, none, some)
      go (suc k) is =
          let some : 0 < i = omega (arith, is) in
          let last = rising.last some in
          let before = sorted (i - 1) i 0 (omega arith) within in
          let same : get_or numbers (i - 1) 0 ≡ number = omega (arith, last, low, before) in
          let earlier = get_or-le-sum_by (mark number) (take i numbers) (i - 1) 0
          (omega (arith, length-take-le i numbers (omega (arith, within)), some)) in
          let read = get_or-take i numbers (i - 1) 0 (omega (arith, some)) in
          let one : mark number (get_or (take i numbers) (i - 1) 0) ≡ 1 = ap (mark number) (read ∙ same) ∙ mine in
          let more = often_more numbers i number within in
          let whole = sum_by-take-le (mark number) numbers (i + 1) in
          let each = apart.one_each number in
          omega (arith, earlier, one, more, mine, whole, each)

pub rising_all : (numbers : List ℕ) (next i least : ℕ) → IsRising numbers next i least → length numbers ≤ i → AreApart (often numbers) next
rising_all numbers next i least rising end =
    let all = take_all i numbers end in
    record {
      one_each = λ n. subst (λ (l : List ℕ). often l n ≤ 1) all (rising.apart.one_each n);
      from_one = subst (λ (l : List ℕ). often l 0 ≤ 0) all rising.apart.from_one;
      below = λ n above. subst (λ (l : List ℕ). often l n ≤ 0) all (rising.under n above);
    }

-- used as often, so apart as well
pub apart_as : (one two : ℕ → ℕ) (next : ℕ) → ((n : ℕ) → one n ≡ two n) → AreApart one next → AreApart two next
apart_as one two next same apart = record {
  one_each = λ n. subst (λ (k : ℕ). k ≤ 1) (same n) (apart.one_each n);
  from_one = subst (λ (k : ℕ). k ≤ 0) (same 0) apart.from_one;
  below = λ n above. subst (λ (k : ℕ). k ≤ 0) (same n) (apart.below n above);
}

-- ---- sums up to a bound

pub most_small : (amount : Amount) → most amount < 2 ^ 63
most_small amounts.Bytes = omega arith
most_small amounts.Events = omega arith
most_small amounts.Channels = omega arith
most_small amounts.Size = omega arith
