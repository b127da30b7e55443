-- Which calls of an object in memory are to fail.
use Rattle.std.specs.Prelude.{◌≡◌, ◌+◌, ◌-◌, ◌^◌, ◌==◌, ℕ, Bool, min}
use Rattle.std.specs.List.{list_any}
use Rattle.ix_base.specs.declared.faults.FailPlan.{FailPlan}

-- a counter of 64 bits one further on; it stands at its last value
abbrev pub counted : ℕ → ℕ
counted n = min (n + 1) (2 ^ 64 - 1)

-- the number of the next call is one of those that are to fail
abbrev pub is_due : FailPlan → Bool
is_due plan = list_any (λ n. n == plan.calls) plan.failing.items

-- one call was counted, and the same calls are to fail as before
pub record CountsCall (before after : FailPlan) : Type 0 where
  pub number : after.calls ≡ counted before.calls
  pub list : after.failing ≡ before.failing
