-- The format of dates with hyphens and times with colons.
use Rattle.std.specs.Prelude.{ℕ, min, List, Some}
use Rattle.ix_dates.specs.declared.fields.Field.{Field}
use Rattle.ix_dates.specs.declared.fields.Fields.{Fields}
use Rattle.ix_dates.specs.declared.fields.Hour.TheVariants.{OfDay}
use Rattle.ix_dates.specs.Directives.{offset, signed_offset}
use Rattle.ix_dates.specs.Fields.{no_fields, set}
use Rattle.ix_dates.specs.Text.{Read, ◌>>=◌, match_some, or_else, behind, within, fraction}

-- a byte and two digits, from `low` to `high`
unfoldable pub two_behind : ℕ → ℕ → ℕ → List ℕ → Read ℕ
two_behind byte low high text = behind byte text >>= (λ rest. within 2 2 low high rest)

-- four digits, a hyphen, two digits, a hyphen and two digits
unfoldable pub date : List ℕ → Read Fields
date text = do
  year ← within 4 4 0 9999 text
  month ← two_behind 45 1 12 year.1
  day ← two_behind 45 1 31 month.1
  Some (record no_fields { year = Some year.0; month = Some month.0; day = Some day.0 }, day.1)

-- `T` or one space, two digits, a colon, two digits, a colon and two digits
unfoldable pub clock : Fields → List ℕ → Read Fields
clock f text =
    or_else (behind 84 text) (behind 32 text) >>= (λ rest. within 2 2 0 23 rest
    >>= (λ hour. two_behind 58 0 59 hour.1
    >>= (λ minute. two_behind 58 0 60 minute.1
    >>= (λ second. Some (record f { hour = Some (OfDay hour.0); minute = Some minute.0; second = Some (min second.0 59) }, second.1)))))

-- `.` or `,` and a fraction
abbrev pub point_fraction : List ℕ → Read ℕ
point_fraction text = or_else (behind 46 text) (behind 44 text) >>= (λ rest. fraction 1 9 rest)

-- the same, where they stand
unfoldable pub some_fraction : Fields → List ℕ → Fields × List ℕ
some_fraction f text = match_some (point_fraction text) (f, text) (λ p. (record f { micros = Some p.0 }, p.1))

-- a zone; one space may stand before one with a sign
abbrev pub zone : List ℕ → Read Field
zone text = or_else (offset text) (behind 32 text >>= (λ rest. signed_offset rest))

-- the same, where it stands
unfoldable pub some_zone : Fields → List ℕ → Fields × List ℕ
some_zone f text = match_some (zone text) (f, text) (λ p. (set f p.0, p.1))

-- a date and a time, and a fraction and a zone where they stand
unfoldable pub iso : List ℕ → Read Fields
iso text = do
  day ← date text
  time ← clock day.0 day.1
  Some (some_zone (some_fraction time.0 time.1).0 (some_fraction time.0 time.1).1)
