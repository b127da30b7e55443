-- What a disk that fails calls by itself makes of a call of the disk inside.
use Rattle.std.specs.Prelude.{◌≡◌, ◌≢◌, ◌<◌, ◌-◌, ℕ, zero, suc, Option, None, Some, Result, IsErr}
use Rattle.ix_base.specs.Faults.{HasCause}

-- While calls are left it passes one on, and fails only where that one fails. Then each call fails,
-- and the disk inside stays as it is.
pub record Stops {D T E : Type 0} (faults : D → ℕ) (before after : ℕ) (old new : D) (result : Result T E) : Type 0 where
  pub counted : after ≡ before - 1
  pub passed : 0 < before → HasCause (faults old) (faults new) result
  pub stopped : before ≡ 0 → IsErr result × (new ≡ old)

-- how many calls come before the one that fails, if it still comes, after one call more
abbrev pub calls_before : Option ℕ → Option ℕ
calls_before None = None
calls_before (Some zero) = None
calls_before (Some (suc n)) = Some n

-- The one call fails, and the disk inside stays as it is. Every other is passed on, and fails only
-- where that one fails.
pub record FailsOne {D T E : Type 0} (faults : D → ℕ) (before after : Option ℕ) (old new : D) (result : Result T E) : Type 0 where
  pub counted : after ≡ calls_before before
  pub passed : before ≢ Some 0 → HasCause (faults old) (faults new) result
  pub failed : before ≡ Some 0 → IsErr result × (new ≡ old)
