-- What is said where a call has failed.
use Rattle.std.proofs.Common.{◌≡◌, Result, Ok, Err, refl}
use Rattle.std.specs.Result.{IsErrAnd}
use Rattle.ix_catalog.specs.declared.placer.DealFault.{DealFault}
use Rattle.ix_catalog.specs.declared.placer.DealFault.TheVariants as faults

no_cause : {T : Type 0} (r : Result T DealFault) (e : DealFault) → e ≡ faults.NoMemory → r ≡ Err e → r ≡ Err faults.Full → ⊥
no_cause r e a b c = cc

-- want of memory is not said of numbers
pub memory_no_full : {T R : Type 0} (r : Result T DealFault) → IsErrAnd r (λ e. e ≡ faults.NoMemory) → r ≡ Err faults.Full → R
memory_no_full (Ok x) failed is = absurd failed
memory_no_full (Err e) failed is = absurd (no_cause (Err e) e failed refl is)

-- the cause is that of the call within
pub same_fault : {T U : Type 0} (inner : Result T DealFault) (outer : Result U DealFault) (own named : DealFault) → inner ≡ Err own →
    IsErrAnd outer (λ e. e ≡ own) →
    outer ≡ Err named → inner ≡ Err named
same_fault inner (Ok x) own named was failed is = absurd failed
same_fault inner (Err e) own named was failed is = cc

-- where a call has not failed there is no fault
pub ok_no_fault : {T : Type 0} {x : T} {e : DealFault} → (let result : Result T DealFault = Ok x in result ≡ Err e) → ⊥
ok_no_fault is = cc
