-- The instant that the fields of a text come to.
use Rattle.std.specs.Prelude.{ℕ, ℤ, pos, ◌+◌, ◌*◌, ◌%◌, ◌&&◌, nat_le, Bool, true, false, List, Option, Some, None, unwrap_or}
use Rattle.std.specs.Prelude.{option_and_then, if◌then◌else◌}
use Rattle.jiff_tz.specs.PosixText.{TzText}
use Rattle.ix_conf_values.specs.declared.formats.Directive.{Directive}
use Rattle.ix_dates.specs.declared.wall.CivilTime.{CivilTime}
use Rattle.ix_dates.specs.declared.wall.YearDay.{YearDay}
use Rattle.ix_dates.specs.declared.wall.YearDay.TheVariants.{InMonth, Ordinal}
use Rattle.ix_dates.specs.Instant.{instant_of}
use Rattle.ix_dates.specs.Year.{instant_in_some_year}
use Rattle.ix_dates.specs.declared.fields.Fields.{Fields}
use Rattle.ix_dates.specs.declared.fields.Hour.{Hour}
use Rattle.ix_dates.specs.declared.fields.Hour.TheVariants.{OfDay, OfHalfDay}
use Rattle.ix_dates.specs.declared.known.KnownFormat.{KnownFormat}
use Rattle.ix_dates.specs.Directives.{read_all}
use Rattle.ix_dates.specs.Fields.{no_fields}
use Rattle.ix_dates.specs.Known.{read_known}
use Rattle.ix_dates.specs.Text.{match_some}

-- that many seconds and microseconds after 1970-01-01T00:00:00Z; the seconds have at most eleven
-- digits
abbrev pub epoch_instant : ℕ → ℕ → Option ℤ
epoch_instant seconds micros =
    if nat_le seconds 99_999_999_999 && nat_le micros 999_999 then Some (pos (seconds * 1_000_000 + micros)) else None

-- the day of the year, or else the month with its day
abbrev pub date_of_parts : Option ℕ → Option ℕ → Option ℕ → Option YearDay
date_of_parts (Some n) month day = Some (Ordinal n)
date_of_parts None (Some m) (Some d) = Some (InMonth m d)
date_of_parts None _ _ = None

abbrev pub date_of : Fields → Option YearDay
date_of f = date_of_parts f.day_of_year f.month f.day

-- The hour from 0 to 23. Of half a day's hours, where `AM` or `PM` says which half, 12 is the
-- first.
abbrev pub hour_of_parts : Option Hour → Option Bool → ℕ
hour_of_parts None afternoon = 0
hour_of_parts (Some (OfDay h)) afternoon = h
hour_of_parts (Some (OfHalfDay h)) None = h
hour_of_parts (Some (OfHalfDay h)) (Some false) = h % 12
hour_of_parts (Some (OfHalfDay h)) (Some true) = h % 12 + 12

abbrev pub clock_hour : Fields → ℕ
clock_hour f = hour_of_parts f.hour f.afternoon

-- the civil time of the fields, on that day of that year; what is not there is 0
abbrev pub civil_of : Fields → YearDay → ℕ → CivilTime
civil_of f date year = record {
  year = year;
  date = date;
  hour = clock_hour f;
  minute = unwrap_or f.minute 0;
  second = unwrap_or f.second 0;
  micros = unwrap_or f.micros 0;
}

-- on a day of the year that is named, or of the greatest that may be meant
abbrev pub instant_on : TzText → ℤ → Fields → YearDay → Option ℤ
instant_on zone arrival f date =
    match_some f.year (instant_in_some_year zone f.offset (civil_of f date 0) arrival)
    (λ year. instant_of zone f.offset (civil_of f date year))

-- the instant of the fields; with seconds since 1970 only the fraction counts beside them
unfoldable pub instant_of_fields : TzText → ℤ → Fields → Option ℤ
instant_of_fields zone arrival f =
    match_some f.epoch (option_and_then (λ date. instant_on zone arrival f date) (date_of f))
    (λ seconds. epoch_instant seconds (unwrap_or f.micros 0))

-- what a format reads at the front of a text, as an instant
unfoldable pub by_format : TzText → ℤ → List Directive → List ℕ → Option ℤ
by_format zone arrival format text =
    option_and_then (λ p. instant_of_fields zone arrival p.0) (read_all format no_fields text)

-- the same, of a format that is tried where none is set
unfoldable pub by_known : TzText → ℤ → KnownFormat → List ℕ → Option ℤ
by_known zone arrival format text =
    option_and_then (λ p. instant_of_fields zone arrival p.0) (read_known format text)
