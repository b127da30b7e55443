-- The definitions of `specs/` are jiff's.
use Rattle.std.proofs.Common.{◌≡◌, ℕ, ℤ, pos, ◌*ℤ◌, ◌-ℤ◌, Bool, true, false, cond, Option, Some, None, refl, arith}
use Rattle.std.specs.Prelude.{option_map}
use Rattle.jiff_core.proofs.DateLemmas.{epoch_day-ordinal}
use Rattle.jiff_core.specs.Date.{epoch_day, ordinal}
use Rattle.jiff_core.specs.DateTime.{civil_nanos}
use Rattle.jiff_core.specs.declared.civil.date.Date.{Date}
use Rattle.jiff_core.specs.declared.Offset.{Offset}
use Rattle.jiff_core.specs.declared.civil.datetime.DateTime.{DateTime}
use Rattle.jiff_tz.specs.Ambiguous.{compatible_offset}
use Rattle.jiff_tz.specs.PosixRule.{ambiguous_at, ambiguous_at_by, ambiguous_by, rule_nanos, match_some}
use Rattle.jiff_tz.specs.PosixText.{tz_view, dst_view}
use Rattle.jiff_tz.specs.declared.ambiguous.AmbiguousOffset.{AmbiguousOffset}
use Rattle.jiff_tz.specs.declared.posix.Dst.{Dst}
use Rattle.jiff_tz.specs.declared.posix.TimeZone.{TimeZone}
use Rattle.std.specs.Prelude.{int_div, ◌+◌, ◌*◌, ◌+ℤ◌}
use Rattle.jiff_core.proofs.SignedLemmas.{signed_arith}
use Rattle.jiff_core.specs.Timestamp.{nanos_of_seconds}
use Rattle.ix_dates.specs.declared.wall.CivilTime.{CivilTime}
use Rattle.ix_dates.specs.Civil.{day_number, exists, ordinal_number, wall_micros}
use Rattle.ix_dates.specs.Instant.{instant_in, instant_at_offset, at_seconds, held, truncated}
use Rattle.ix_dates.specs.Zone.{zone_seconds, seconds_by, moment}

-- the offset before, of a choice
before_cond : (b : Bool) (x y : AmbiguousOffset) → (compatible_offset (cond b x y)).seconds ≡ cond b (compatible_offset x).seconds
    (compatible_offset y).seconds
before_cond true x y = refl
before_cond false x y = refl

-- the offset before, of a moment on a wall clock
pub seconds_by-is : (std dst : Offset) (w : ℤ × ℤ) (at : ℤ) →
    (compatible_offset (ambiguous_by std dst w at)).seconds ≡ seconds_by std.seconds dst.seconds w at
seconds_by-is std dst w at = simp before_cond

-- the offset before, of a civil datetime
zone_seconds-by : (std : Offset) (dst : Option Dst) (dt : DateTime) →
    (compatible_offset (ambiguous_at_by std dst dt)).seconds ≡ match_some (option_map dst_view dst) std.seconds
    (λ d. seconds_by std.seconds d.seconds (moment dt.date.year d.start, moment dt.date.year d.finish) (civil_nanos dt))
unfolding rule_nanos
zone_seconds-by std None dt = refl
zone_seconds-by std (Some d) dt =
    seconds_by-is std d.offset (rule_nanos dt.date.year d.rule.start (pos 0), rule_nanos dt.date.year d.rule.end (pos 0)) (civil_nanos dt)

-- `zone_seconds` is the offset that jiff's compatible choice takes
pub zone_seconds-is : (tz : TimeZone) (dt : DateTime) →
    (compatible_offset (ambiguous_at tz dt)).seconds ≡ zone_seconds (tz_view tz) dt.date.year (civil_nanos dt)
unfolding zone_seconds
zone_seconds-is tz dt = zone_seconds-by tz.std_offset tz.dst dt

-- a thousandth of a thousandfold
div_thousand : (m : ℤ) → int_div (m *ℤ pos 1000) (pos 1000) ≡ m
div_thousand m = omega (arith, signed_arith)

-- a thousandfold comes to the same microseconds
held_is : (m : ℤ) → truncated (m *ℤ pos 1000) ≡ held m
held_is m = rw (div_thousand m) refl

-- microseconds less seconds, in nanoseconds
less_seconds : (w s : ℤ) → w *ℤ pos 1000 -ℤ nanos_of_seconds s ≡ (w -ℤ s *ℤ pos 1_000_000) *ℤ pos 1000
less_seconds w s = omega (arith, signed_arith)

-- a day number and a time of day, in nanoseconds
pub wall_micros-nanos : (c : CivilTime) (day : ℤ) (nanos : ℕ) → day ≡ day_number (pos c.year) c.date →
    nanos ≡ (c.hour * 3600 + c.minute * 60 + c.second) * 1_000_000_000 + c.micros * 1000 →
    day *ℤ pos 86_400_000_000_000 +ℤ pos nanos ≡ wall_micros c *ℤ pos 1000
unfolding wall_micros
wall_micros-nanos c day nanos e f = rw (e, f) (omega (arith, signed_arith))

-- the instant of a datetime, by jiff's compatible choice, is `instant_in`
pub instant_in-is : (c : CivilTime) (tz : TimeZone) (dt : DateTime) → exists c ≡ true → dt.date.year ≡ pos c.year →
    civil_nanos dt ≡ wall_micros c *ℤ pos 1000 → truncated
    (civil_nanos dt -ℤ nanos_of_seconds (compatible_offset (ambiguous_at tz dt)).seconds) ≡ instant_in (tz_view tz) c
unfolding instant_in at_seconds
instant_in-is c tz dt there year nanos =
    rw (
      zone_seconds-is tz dt,
      nanos,
      year,
      there,
      less_seconds (wall_micros c)
          (zone_seconds (tz_view tz) (pos c.year) (wall_micros c *ℤ pos 1000)),
      held_is,
    ) refl

-- the same at a given offset
pub instant_at_offset-is : (seconds : ℤ) (c : CivilTime) (dt : DateTime) → exists c ≡ true → civil_nanos dt ≡ wall_micros c *ℤ pos 1000 →
    truncated (civil_nanos dt -ℤ nanos_of_seconds seconds) ≡ instant_at_offset seconds c
unfolding instant_at_offset at_seconds
instant_at_offset-is seconds c dt there nanos =
    rw (nanos, there, less_seconds (wall_micros c) seconds, held_is) refl

-- the day number of a date by its place in the year
pub ordinal_number-is : (d : Date) (y : ℤ) (n : ℕ) → d.year ≡ y → pos (ordinal d) ≡ pos n → epoch_day d ≡ ordinal_number y n
ordinal_number-is d y n year place =
    rw (← year, ← place) (omega (arith, signed_arith, epoch_day-ordinal d))
