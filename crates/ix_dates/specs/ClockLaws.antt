-- What the definitions of instants come to, in jiff's own words.
use Rattle.std.specs.Prelude.{◌≡◌, true, pos, ◌*ℤ◌, ◌-ℤ◌}
use Rattle.jiff_core.specs.DateTime.{civil_nanos}
use Rattle.jiff_core.specs.Timestamp.{nanos_of_seconds}
use Rattle.jiff_core.specs.declared.civil.datetime.DateTime.{DateTime}
use Rattle.jiff_tz.specs.Ambiguous.{compatible_offset}
use Rattle.jiff_tz.specs.PosixRule.{ambiguous_at}
use Rattle.jiff_tz.specs.PosixText.{tz_view}
use Rattle.jiff_tz.specs.declared.posix.TimeZone.{TimeZone}
use Rattle.ix_dates.specs.declared.wall.CivilTime.{CivilTime}
use Rattle.ix_dates.specs.Civil.{exists, wall_micros}
use Rattle.ix_dates.specs.Instant.{instant_in, truncated}

-- In a zone, the instant of a civil time is the one at the offset that jiff's compatible choice
-- takes for jiff's datetime of it: in a gap and in a fold the offset before the change.
abbrev pub IsCompatibleChoice : Type 0
IsCompatibleChoice = (zone : TimeZone) (c : CivilTime) (dt : DateTime) → exists c ≡ true → dt.date.year ≡ pos c.year →
    civil_nanos dt ≡ wall_micros c *ℤ pos 1000 →
    instant_in (tz_view zone) c ≡ truncated (civil_nanos dt -ℤ nanos_of_seconds (compatible_offset (ambiguous_at zone dt)).seconds)
