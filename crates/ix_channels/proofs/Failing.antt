-- What is said where a call has failed.
use Rattle.std.proofs.Common.{◌≡◌, Result, Ok, Err}
use Rattle.std.specs.Result.{IsErrAnd}
use Rattle.ix_channels.specs.declared.channel_effect.WorkFault.{WorkFault}
use Rattle.ix_channels.specs.declared.channel_effect.WorkFault.TheVariants as faults

-- an answer is no failure
pub no_failure : {T E : Type 0} (x : T) (e : E) → Ok x ≡ Err e → ⊥
no_failure x e is = cc

-- want of memory does not pass the bounds
pub memory_no_full : {T : Type 0} (r : Result T WorkFault) → IsErrAnd r (λ e. e ≡ faults.NoMemory) → r ≡ Err faults.Full → ⊥
memory_no_full (Ok x) failed is = absurd failed
memory_no_full (Err e) failed is = cc

-- the cause is that of the call within
pub same_fault : {T X : Type 0} (inner : Result T WorkFault) (outer : Result X WorkFault) (own named : WorkFault) → inner ≡ Err own →
    IsErrAnd outer (λ e. e ≡ own) →
    outer ≡ Err named → inner ≡ Err named
same_fault inner (Ok x) own named was failed is = absurd failed
same_fault inner (Err e) own named was failed is = cc
