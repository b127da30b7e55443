-- The lines that an export writes, and their number.
use Rattle.std.specs.Prelude.{◌≡◌, ◌+◌, ◌-◌, ◌^◌, ◌*ℤ◌, ◌&&◌, ℕ, ℤ, pos, min, Bool, true, int_le, int_lt, List, length, Option, None, Some}
use Rattle.std.specs.List.{filter}
use Rattle.ix_export.specs.EventLine.{lines}
use Rattle.ix_base.specs.Told.{HasWritten}
use Rattle.ix_base.specs.declared.events.Event.{Event}
use Rattle.ix_base.specs.declared.events.Range.{Range}

-- so many seconds in microseconds
abbrev pub micros : ℤ → ℤ
micros seconds = seconds *ℤ pos 1_000_000

-- a time in microseconds is not before the second
abbrev pub is_from : Option ℤ → ℤ → Bool
is_from None time = true
is_from (Some earliest) time = int_le (micros earliest) time

-- it is before the second
abbrev pub is_before : Option ℤ → ℤ → Bool
is_before None time = true
is_before (Some latest) time = int_lt time (micros latest)

-- an event's time is within the range
abbrev pub is_within : Range → Event → Bool
is_within range event = is_from range.earliest event.time && is_before range.latest event.time

-- the events within the range, in their order
abbrev pub within : Range → List Event → List Event
within range events = filter (is_within range) events

-- their lines
abbrev pub text : Range → List Event → List ℕ
text range events = lines (within range events)

-- so many, in a count that stands at the last value of 64 bits
abbrev pub capped : ℕ → ℕ
capped n = min n (2 ^ 64 - 1)

-- how many lines there are, in such a count
abbrev pub number : Range → List Event → ℕ
number range events = capped (length (within range events))

-- The lines of the events within the range were written, behind what stood there, and counted,
-- whatever number was counted before.
pub record HasExported (range : Range) (events : List Event) (given : Option (List ℕ)) (count : ℕ) (given' : Option (List ℕ))
    (count' : ℕ) : Type 0 where
  pub written : HasWritten (text range events) given given'
  pub counted : (n : ℕ) → count ≡ capped n → count' ≡ capped (n + length (within range events))
