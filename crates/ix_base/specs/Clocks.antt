-- The moments that a clock will answer, and the range of those that are taken.
use Rattle.std.specs.Prelude.{◌≡◌, ◌+◌, ◌-◌, ℕ, ℤ, pos, List, length, min, slice_index_or, int_lt, if◌then◌else◌}

-- the moments still to come, the next one first
abbrev pub Moments : Type 0
Moments = ℕ → ℤ

-- the clock answered the first of them
pub record Answered (moment : ℤ) (old new : Moments) : Type 0 where
  pub first : old 0 ≡ moment
  pub others : (n : ℕ) → new n ≡ old (n + 1)

-- the moments of a list from a place on; the last one repeats, and an empty list is one of zeros
abbrev pub moments_from : List ℤ → ℕ → Moments
moments_from moments at n = slice_index_or moments (min (at + n) (length moments - 1)) (pos 0)

-- the beginning of the year 2100, in microseconds since 1970
abbrev pub latest : ℤ
latest = pos 4102444800000000

-- a moment brought between 1970 and 2100
abbrev pub clamped : ℤ → ℤ
clamped moment = if int_lt moment (pos 0) then pos 0 else if int_lt latest moment then latest else moment
