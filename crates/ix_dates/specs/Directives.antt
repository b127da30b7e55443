-- What a format reads: one directive behind the other, without going back. From Splunk's Admin
-- Manual, "Configure timestamp recognition", and the strptime of POSIX.
use Rattle.std.specs.Prelude.{ℕ, pos, neg_ℤ, ◌+◌, ◌*◌, ◌==◌, true, false, nat_lt, min, codes, List, [], ◌∷◌, Option, Some, None}
use Rattle.std.specs.Prelude.{option_map, if◌then◌else◌}
use Rattle.ix_conf_values.specs.declared.formats.Directive.{Directive}
use Rattle.ix_conf_values.specs.declared.formats.Directive.TheVariants as piece
use Rattle.ix_dates.specs.declared.fields.Field.{Field}
use Rattle.ix_dates.specs.declared.fields.Field.TheVariants as field
use Rattle.ix_dates.specs.declared.fields.Fields.{Fields}
use Rattle.ix_dates.specs.declared.fields.Hour.TheVariants.{OfDay, OfHalfDay}
use Rattle.ix_dates.specs.Fields.{set}
use Rattle.ix_dates.specs.Names.{behind_name, month, weekday}
use Rattle.ix_dates.specs.Text.{Read, ◌>>=◌, or_else, behind, number, within, fraction, skip_space}

-- what was read, as a field
abbrev pub gives : {A : Type 0} → Read A → (A → Field) → Read Field
gives r make = option_map (λ p. (make p.0, p.1)) r

-- 69 to 99 is 19xx
abbrev pub year_of_century : ℕ → ℕ
year_of_century n = if nat_lt n 69 then 2000 + n else 1900 + n

-- `AM` or `PM`
unfoldable pub half_day : List ℕ → Read Field
half_day text =
    or_else (option_map (λ rest. (field.Afternoon false, rest)) (behind_name (codes "am") text))
    (option_map (λ rest. (field.Afternoon true, rest)) (behind_name (codes "pm") text))

-- the text behind a colon, if there is one
unfoldable pub skip_colon : List ℕ → List ℕ
skip_colon [] = []
skip_colon (b ∷ rest) = if b == 58 then rest else b ∷ rest

-- the seconds of two digits up to 23, a colon or none, and two digits up to 59
unfoldable pub hours : List ℕ → Read ℕ
hours text =
    within 2 2 0 23 text >>= (λ h. within 2 2 0 59 (skip_colon h.1) >>= (λ m. Some (h.0 * 3600 + m.0 * 60, m.1)))

-- a sign and hours
unfoldable pub signed_offset : List ℕ → Read Field
signed_offset [] = None
signed_offset (b ∷ rest) =
    if b == 43 then gives (hours rest) (λ n. field.Offset (pos n))
    else if b == 45 then gives (hours rest) (λ n. field.Offset (neg_ℤ (pos n)))
    else None

-- `Z`, or a sign and hours
unfoldable pub offset : List ℕ → Read Field
offset [] = None
offset (b ∷ rest) = if b == 90 then Some (field.Offset (pos 0), rest) else signed_offset (b ∷ rest)

-- the text behind these bytes
unfoldable pub behind_all : List ℕ → List ℕ → Option (List ℕ)
behind_all [] text = Some text
behind_all (byte ∷ bytes) text = behind byte text >>= (λ rest. behind_all bytes rest)

-- `UTC`, `GMT` or `Z`
unfoldable pub zone_name : List ℕ → Read Field
zone_name text =
    option_map (λ rest. (field.Offset (pos 0), rest))
    (or_else (behind_all (codes "UTC") text) (or_else (behind_all (codes "GMT") text) (behind_all (codes "Z") text)))

-- what one directive reads
unfoldable pub read_one : Directive → List ℕ → Read Field
read_one piece.Year text = gives (within 4 4 0 9999 text) field.Year
read_one piece.YearOfCentury text = gives (within 2 2 0 99 text) (λ n. field.Year (year_of_century n))
read_one piece.Month text = gives (within 1 2 1 12 text) field.Month
read_one piece.Day text = gives (within 1 2 1 31 text) field.Day
read_one piece.PaddedDay text = gives (within 1 2 1 31 text) field.Day
read_one piece.Hour text = gives (within 1 2 0 23 text) (λ n. field.Hour (OfDay n))
read_one piece.HalfDayHour text = gives (within 1 2 1 12 text) (λ n. field.Hour (OfHalfDay n))
read_one piece.Minute text = gives (within 1 2 0 59 text) field.Minute
read_one piece.Second text = gives (within 1 2 0 60 text) (λ n. field.Second (min n 59))
read_one piece.DayOfYear text = gives (within 1 3 1 366 text) field.DayOfYear
read_one piece.ShortMonthName text = gives (month text) field.Month
read_one piece.MonthName text = gives (month text) field.Month
read_one piece.ShortWeekdayName text = gives (weekday text) (λ n. field.Nothing)
read_one piece.WeekdayName text = gives (weekday text) (λ n. field.Nothing)
read_one piece.HalfDay text = half_day text
read_one piece.Epoch text = gives (number 1 11 text) field.Epoch
read_one piece.Fraction text = gives (fraction 1 9 text) field.Micros
read_one piece.Millis text = gives (fraction 3 3 text) field.Micros
read_one piece.Micros text = gives (fraction 6 6 text) field.Micros
read_one piece.Nanos text = gives (fraction 9 9 text) field.Micros
read_one piece.Offset text = offset text
read_one piece.ZoneName text = zone_name text
read_one piece.Space text = Some (field.Nothing, skip_space text)
read_one (piece.Byte byte) text = option_map (λ rest. (field.Nothing, rest)) (behind byte text)

-- what directives read, over the fields so far
unfoldable pub read_all : List Directive → Fields → List ℕ → Read Fields
read_all [] f text = Some (f, text)
read_all (d ∷ ds) f text = read_one d text >>= (λ p. read_all ds (set f p.0) p.1)
