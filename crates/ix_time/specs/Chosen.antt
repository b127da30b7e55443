-- Which time an event takes.
use Rattle.std.specs.Prelude.{ℕ, ℤ, pos, ◌*◌, ◌+ℤ◌, ◌-ℤ◌, ◌&&◌, Bool, int_le, Option, Some, None, if◌then◌else◌}
use Rattle.ix_time.specs.declared.chosen.Origin.TheVariants.{Read, Last, Arrival}
use Rattle.ix_time.specs.declared.chosen.TimeFound.{TimeFound}

-- not below the arrival less so many days, and not above it and so many days; a day has 86,400
-- seconds
abbrev pub is_accepted : ℤ → ℤ → ℕ → ℕ → Bool
is_accepted time arrival ago hence =
    int_le (arrival -ℤ pos (ago * 86_400_000_000)) time && int_le time (arrival +ℤ pos (hence * 86_400_000_000))

-- the last accepted time, and else the arrival
abbrev pub fall_back : ℤ → Option ℤ → TimeFound
fall_back arrival None = record { time = arrival; origin = Arrival }
fall_back arrival (Some last) = record { time = last; origin = Last }

-- the time that was read, where it is accepted
abbrev pub settle : Option ℤ → ℤ → ℕ → ℕ → Option ℤ → TimeFound
settle None arrival ago hence last = fall_back arrival last
settle (Some time) arrival ago hence last =
    if is_accepted time arrival ago hence then record { time = time; origin = Read } else fall_back arrival last
