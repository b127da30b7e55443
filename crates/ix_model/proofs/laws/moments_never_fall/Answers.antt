use Rattle.std.proofs.Common.{subst, sym}
use Rattle.std.specs.Prelude.{◌≤ℤ◌}
use Rattle.ix_model.specs.State.{State, empty}
use Rattle.ix_model.specs.Step.{state_after}
use Rattle.ix_model.proofs.Following.{after_more}
use Rattle.ix_model.proofs.Moments.{moments_after, never_falls}
use Rattle.ix_model.proofs.laws.moments_never_fall.Goals as goal

pub returns-clause-range : goal.returns-clause-range
returns-clause-range c = moments_after

pub returns-clause-rise : goal.returns-clause-rise
returns-clause-rise c = λ choose before later.
    subst (λ (m : State). (state_after choose before).last ≤ℤ m.last) (sym (after_more choose empty before later))
    (never_falls choose (state_after choose before) later)
