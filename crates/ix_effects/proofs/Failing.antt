-- What is said where a call has failed.
use Rattle.std.proofs.Common.{◌≡◌, Result, Ok, Err, refl}
use Rattle.std.specs.Result.{IsErrAnd}
use Rattle.ix_effects.specs.declared.catalog_effect.MoveFault.{MoveFault}
use Rattle.ix_effects.specs.declared.catalog_effect.MoveFault.TheVariants as faults

no_cause : {T : Type 0} (r : Result T MoveFault) (e : MoveFault) → e ≡ faults.NoMemory → r ≡ Err e → r ≡ Err faults.Full → ⊥
no_cause r e a b c = cc

-- want of memory does not pass the bounds
pub memory_no_full : {T R : Type 0} (r : Result T MoveFault) → IsErrAnd r (λ e. e ≡ faults.NoMemory) → r ≡ Err faults.Full → R
memory_no_full (Ok x) failed is = absurd failed
memory_no_full (Err e) failed is = absurd (no_cause (Err e) e failed refl is)

-- the cause is that of the call within
pub same_fault : {T U : Type 0} (inner : Result T MoveFault) (outer : Result U MoveFault) (own named : MoveFault) → inner ≡ Err own →
    IsErrAnd outer (λ e. e ≡ own) →
    outer ≡ Err named → inner ≡ Err named
same_fault inner (Ok x) own named was failed is = absurd failed
same_fault inner (Err e) own named was failed is = cc
