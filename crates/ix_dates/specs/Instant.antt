-- The instant of a civil time in the zone of a rule.
use Rattle.std.specs.Prelude.{ℤ, pos, neg_ℤ, ◌*ℤ◌, ◌-ℤ◌, ◌&&◌, Bool, int_le, int_div, Option, Some, None, if◌then◌else◌}
use Rattle.jiff_tz.specs.PosixText.{TzText}
use Rattle.ix_dates.specs.declared.wall.CivilTime.{CivilTime}
use Rattle.ix_dates.specs.Civil.{exists, wall_micros}
use Rattle.ix_dates.specs.Zone.{zone_seconds}

-- jiff holds the instant of so many nanoseconds: from -9999-01-02T01:59:59Z to
-- 9999-12-30T22:00:00.999999999Z
abbrev pub is_instant : ℤ → Bool
is_instant n =
    int_le (neg_ℤ (pos 377_705_023_201_000_000_000)) n && int_le n (pos 253_402_207_200_999_999_999)

-- whole microseconds of an instant in nanoseconds, rounded toward zero, if jiff holds it
abbrev pub truncated : ℤ → Option ℤ
truncated n = if is_instant n then Some (int_div n (pos 1000)) else None

-- the instant in microseconds, if jiff holds it
abbrev pub held : ℤ → Option ℤ
held micros = if is_instant (micros *ℤ pos 1000) then Some micros else None

-- the instant at which a clock so many seconds ahead of UTC shows so many microseconds
unfoldable pub at_seconds : ℤ → ℤ → Option ℤ
at_seconds seconds wall = held (wall -ℤ seconds *ℤ pos 1_000_000)

-- the instant of a civil time in a zone
unfoldable pub instant_in : TzText → CivilTime → Option ℤ
instant_in zone c =
    if exists c then at_seconds (zone_seconds zone (pos c.year) (wall_micros c *ℤ pos 1000)) (wall_micros c) else None

-- jiff has an offset of so many seconds: at most 25:59:59
abbrev pub is_offset : ℤ → Bool
is_offset seconds = int_le (neg_ℤ (pos 93_599)) seconds && int_le seconds (pos 93_599)

-- the instant at which a clock so many seconds ahead of UTC shows a civil time
unfoldable pub instant_at_offset : ℤ → CivilTime → Option ℤ
instant_at_offset seconds c = if exists c then at_seconds seconds (wall_micros c) else None

-- the same, if jiff has the offset
abbrev pub instant_at_seconds : ℤ → CivilTime → Option ℤ
instant_at_seconds seconds c = if is_offset seconds then instant_at_offset seconds c else None

-- the instant at the offset, if there is one, and else in the zone
abbrev pub instant_of : TzText → Option ℤ → CivilTime → Option ℤ
instant_of zone None c = instant_in zone c
instant_of zone (Some seconds) c = instant_at_seconds seconds c
