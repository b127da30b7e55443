-- What a civil time means.
use Rattle.std.specs.Prelude.{ℕ, ℤ, pos, ◌+◌, ◌*◌, ◌+ℤ◌, ◌-ℤ◌, ◌*ℤ◌, ◌&&◌, Bool, nat_le}
use Rattle.jiff_core.specs.Calendar.{days_in_month, days_in_year, days_from_civil}
use Rattle.ix_dates.specs.declared.wall.CivilTime.{CivilTime}
use Rattle.ix_dates.specs.declared.wall.YearDay.{YearDay}
use Rattle.ix_dates.specs.declared.wall.YearDay.TheVariants.{InMonth, Ordinal}

-- the year has this month and day
abbrev pub has_date : ℕ → ℕ → ℕ → Bool
has_date y m d = nat_le 1 m && nat_le m 12 && nat_le 1 d && nat_le d (days_in_month (pos y) m)

-- the year has so many days
abbrev pub has_ordinal : ℕ → ℕ → Bool
has_ordinal y n = nat_le 1 n && nat_le n (days_in_year (pos y))

-- the year, of those to 9999, has this day
abbrev pub has_day : ℕ → YearDay → Bool
has_day y (InMonth m d) = nat_le y 9999 && has_date y m d
has_day y (Ordinal n) = nat_le y 9999 && has_ordinal y n

-- the day number of the nth day of the year
abbrev pub ordinal_number : ℤ → ℕ → ℤ
ordinal_number y n = days_from_civil y 1 1 +ℤ pos n -ℤ pos 1

-- days since 1970-01-01
abbrev pub day_number : ℤ → YearDay → ℤ
day_number y (InMonth m d) = days_from_civil y m d
day_number y (Ordinal n) = ordinal_number y n

-- a clock shows this time
abbrev pub has_time : ℕ → ℕ → ℕ → ℕ → Bool
has_time h m s micros = nat_le h 23 && nat_le m 59 && nat_le s 59 && nat_le micros 999_999

-- the date and the time exist
abbrev pub exists : CivilTime → Bool
exists c = has_day c.year c.date && has_time c.hour c.minute c.second c.micros

-- microseconds since midnight
abbrev pub day_micros : CivilTime → ℕ
day_micros c = (c.hour * 3600 + c.minute * 60 + c.second) * 1_000_000 + c.micros

-- microseconds since 1970-01-01T00:00:00 on a clock whose days have 24 hours
unfoldable pub wall_micros : CivilTime → ℤ
wall_micros c = day_number (pos c.year) c.date *ℤ pos 86_400_000_000 +ℤ pos (day_micros c)
