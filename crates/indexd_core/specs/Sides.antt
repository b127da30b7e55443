-- The input and the output of a run, as they are before it and after it.
use Rattle.std.specs.Prelude.{◌≡◌, ℕ, List, [], Option, IfSome}

-- How often an input or an output has failed, and the bytes that it tells, where it tells any: what
-- an input has left, and what an output was given.
pub record Side : Type 0 where
  pub faults : ℕ
  pub told : Option (List ℕ)

abbrev pub side : ℕ → Option (List ℕ) → Side
side faults told = record { faults = faults; told = told }

-- an input that tells what it has left has nothing left
abbrev pub IsAtEnd : Side → Type 0
IsAtEnd input = IfSome input.told (λ bytes. bytes ≡ [])
