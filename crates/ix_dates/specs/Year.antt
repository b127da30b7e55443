-- The year of a date that is written without one.
use Rattle.std.specs.Prelude.{◌≡◌, ◌≤◌, ◌<◌, ℕ, zero, suc, ℤ, pos, ◌+ℤ◌, int_le, Option, Some, None, option_and_then, if◌then◌else◌}
use Rattle.jiff_tz.specs.PosixRule.{match_some}
use Rattle.jiff_tz.specs.PosixText.{TzText}
use Rattle.ix_dates.specs.declared.wall.CivilTime.{CivilTime}
use Rattle.ix_dates.specs.Instant.{instant_of}

-- the instant, if it is at most one day after the arrival
abbrev pub at_most_a_day_after : ℤ → Option ℤ → Option ℤ
at_most_a_day_after arrival found =
    option_and_then (λ t. if int_le t (arrival +ℤ pos 86_400_000_000) then Some t else None) found

-- what the greatest number up to n that gives something gives
unfoldable pub greatest : (ℕ → Option ℤ) → ℕ → Option ℤ
greatest f zero = f zero
greatest f (suc n) = match_some (f (suc n)) (greatest f n) Some

-- the same day and time in another year
abbrev pub in_year : CivilTime → ℕ → CivilTime
in_year c y = record c { year = y }

-- the instant in a year, if it is at most one day after the arrival
abbrev pub instant_in_year : TzText → Option ℤ → CivilTime → ℤ → ℕ → Option ℤ
instant_in_year zone offset c arrival y = at_most_a_day_after arrival (instant_of zone offset (in_year c y))

-- the instant in the greatest year in which the date exists and its instant is at most one day
-- after the arrival
abbrev pub instant_in_some_year : TzText → Option ℤ → CivilTime → ℤ → Option ℤ
instant_in_some_year zone offset c arrival = greatest (instant_in_year zone offset c arrival) 9999

-- the greatest number up to n that gives something, and what it gives
pub record IsGreatest (f : ℕ → Option ℤ) (n : ℕ) (t : ℤ) : Type 0 where
  pub at : ℕ
  pub bound : at ≤ n
  pub gives : f at ≡ Some t
  pub last : (z : ℕ) → at < z → z ≤ n → f z ≡ None

-- what the greatest number gives; nothing where none up to n gives anything
abbrev pub GivesGreatest : (ℕ → Option ℤ) → ℕ → Option ℤ → Type 0
GivesGreatest f n None = (z : ℕ) → z ≤ n → f z ≡ None
GivesGreatest f n (Some t) = IsGreatest f n t
