-- The input and the output of a run as one link.
use Rattle.std.specs.Prelude.{◌^◌, ◌-◌, ℕ, Option, None, Some}
use Rattle.ix_base.specs.Faults.{Rose}
use Rattle.ix_net.specs.declared.link.Side.{Side}

-- A count of failures that is told by the side which failed last: none, or as many as a counter of
-- 64 bits counts.
abbrev pub failures : Option Side → ℕ
failures None = 0
failures (Some side) = 2 ^ 64 - 1

-- a count has not risen
abbrev pub IsSound : ℕ → ℕ → Type 0
IsSound faults faults' = Rose faults faults' → ⊥
