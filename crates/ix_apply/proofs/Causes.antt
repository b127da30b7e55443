-- What hinders a part hinders the whole.
use Rattle.std.proofs.Common.{◌≡◌, refl}
use Rattle.std.specs.Prelude.{IsErrOf, Err}
use Rattle.std.specs.Prelude.{Ok}
use Rattle.std.specs.Result.{IsErrAnd}
use Rattle.std.specs.declared.result.Result.{Result}
use Rattle.ix_channels.specs.declared.channel_effect.WorkFault.{WorkFault}
use Rattle.ix_channels.specs.declared.channel_effect.WorkFault.TheVariants as works
use Rattle.ix_effects.specs.declared.catalog_effect.MoveFault.{MoveFault}
use Rattle.ix_effects.specs.declared.catalog_effect.MoveFault.TheVariants as moves
use Rattle.ix_apply.specs.Faults.{by_work, by_move}
use Rattle.ix_apply.specs.declared.effect.StepFault.{StepFault}
use Rattle.ix_apply.specs.declared.effect.StepFault.TheVariants as faults

no_full : {T : Type 0} → ◌≡◌ {A = Result T StepFault} (Err faults.NoMemory) (Err faults.Full) → ⊥
no_full e = cc

pub work_full : {T U : Type 0} (e : WorkFault) → ◌≡◌ {A = Result T StepFault} (Err (by_work e)) (Err faults.Full) →
    ◌≡◌ {A = Result U WorkFault} (Err e) (Err works.Full)
work_full works.Full h = refl
work_full works.NoMemory h = absurd (no_full h)

pub move_full : {T U : Type 0} (e : MoveFault) → ◌≡◌ {A = Result T StepFault} (Err (by_move e)) (Err faults.Full) →
    ◌≡◌ {A = Result U MoveFault} (Err e) (Err moves.Full)
move_full moves.Full h = refl
move_full moves.NoMemory h = absurd (no_full h)

pub none_full : {T : Type 0} {R : Type 0} → ◌≡◌ {A = Result T StepFault} (Err faults.NoMemory) (Err faults.Full) → R
none_full h = absurd (no_full h)

-- an answer is no failure
pub no_failure : {T E : Type 0} (x : T) (e : E) → ◌≡◌ {A = Result T E} (Ok x) (Err e) → ⊥
no_failure x e is = cc

-- want of memory does not pass the bounds
pub memory_no_full : {T R : Type 0} (r : Result T StepFault) → IsErrAnd r (λ e. e ≡ faults.NoMemory) → IsErrOf r faults.Full → R
memory_no_full (Ok x) failed is = absurd failed
memory_no_full (Err e) failed is = absurd (no_cause e failed is)
  where
    no_cause : {T : Type 0} (e : StepFault) → e ≡ faults.NoMemory → ◌≡◌ {A = Result T StepFault} (Err e) (Err faults.Full) → ⊥
    no_cause e a b = cc

-- the cause is that of the call within
pub same_fault : {T U : Type 0} (inner : Result T StepFault) (outer : Result U StepFault) (own named : StepFault) → inner ≡ Err own →
    IsErrAnd outer (λ e. e ≡ own) →
    outer ≡ Err named → inner ≡ Err named
same_fault inner (Ok x) own named was failed is = absurd failed
same_fault inner (Err e) own named was failed is = cc
