-- Stretches of time.
use Rattle.std.specs.Prelude.{◌*◌, ℕ, ℤ, pos, ◌+ℤ◌, Bool, int_lt}

-- whether a time, in microseconds, is more than so many seconds before another
abbrev pub is_longer : ℤ → ℤ → ℕ → Bool
is_longer from to secs = int_lt (from +ℤ pos (secs * 1000000)) to
