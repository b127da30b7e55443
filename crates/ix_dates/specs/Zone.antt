-- The offset that a POSIX rule has for a civil time, by the offset before a gap or a fold. Each
-- definition is one of jiff_tz's PosixRule over the parts of a rule that its grammar reads.
use Rattle.std.specs.Prelude.{ℤ, pos, ◌+ℤ◌, ◌-ℤ◌, ◌*ℤ◌, not, int_lt, if◌then◌else◌}
use Rattle.jiff_core.specs.Timestamp.{nanos_of_seconds}
use Rattle.jiff_tz.specs.declared.posix.Day.{Day}
use Rattle.jiff_tz.specs.PosixText.{TzText}
use Rattle.jiff_tz.specs.PosixRule.{match_some, rule_day, clamp_to, first_nanosecond, last_nanosecond, nanos_per_day, in_window, in_span}
use Rattle.jiff_tz.specs.PosixRule.{saturating_add, saturating_sub}

-- when a rule's moment falls in the year, on the wall clock that the rule reads
abbrev pub moment : ℤ → Day × ℤ → ℤ
moment y d = match_some (rule_day y d.0) (last_nanosecond y) (λ day.
    clamp_to (first_nanosecond y) (last_nanosecond y)
    (day *ℤ nanos_per_day +ℤ nanos_of_seconds (d.1 -ℤ pos 0)))

-- how far daylight saving time is ahead of standard time
abbrev pub shift : ℤ → ℤ → ℤ
shift std dst = nanos_of_seconds dst -ℤ nanos_of_seconds std

-- the offset before, where daylight saving time is behind standard time
abbrev pub seconds_behind : ℤ → ℤ → ℤ × ℤ → ℤ → ℤ
seconds_behind std dst w at =
    if in_window w at then dst
    else (if in_span (saturating_add w.0 (shift std dst)) w.0 at then std
    else (if in_span w.1 (saturating_sub w.1 (shift std dst)) at then dst
    else std))

-- the offset before, where daylight saving time is ahead of standard time
abbrev pub seconds_ahead : ℤ → ℤ → ℤ × ℤ → ℤ → ℤ
seconds_ahead std dst w at =
    if not (in_window w at) then std
    else (if in_span w.0 (saturating_add w.0 (shift std dst)) at then std
    else (if in_span (saturating_sub w.1 (shift std dst)) w.1 at then dst
    else dst))

abbrev pub seconds_by : ℤ → ℤ → ℤ × ℤ → ℤ → ℤ
seconds_by std dst w at =
    if int_lt dst std then seconds_behind std dst w at
    else (if int_lt std dst then seconds_ahead std dst w at else std)

-- the seconds ahead of UTC of a civil time in the year, at so many civil nanoseconds
unfoldable pub zone_seconds : TzText → ℤ → ℤ → ℤ
zone_seconds z y at = match_some z.dst z.std_seconds (λ d.
    seconds_by z.std_seconds d.seconds (moment y d.start, moment y d.finish) at)
