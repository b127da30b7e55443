-- What is said where there was no room in memory.
use Rattle.std.proofs.Common.{◌≡◌, Result, Ok, Err, refl}
use Rattle.std.specs.Prelude.{IsErrOf}
use Rattle.std.specs.Result.{IsErrAnd}
use Rattle.ix_recovery.specs.declared.faults.RecoveryFault.{RecoveryFault}
use Rattle.ix_recovery.specs.declared.faults.RecoveryFault.TheVariants as faults
use Rattle.ix_store.specs.declared.faulty_item.FaultyItem.{FaultyItem}

no_cause : {T : Type 0} (r : Result T RecoveryFault) (e : RecoveryFault) (subject : FaultyItem) → e ≡ faults.NoMemory → r ≡ Err e →
    r ≡ Err (faults.Bad subject) → ⊥
no_cause r e subject a b c = cc

-- it is no item's fault
pub memory_no_bad : {T R : Type 0} (r : Result T RecoveryFault) (subject : FaultyItem) → IsErrAnd r (λ e. e ≡ faults.NoMemory) →
    r ≡ Err (faults.Bad subject) → R
memory_no_bad (Ok x) subject failed is = absurd failed
memory_no_bad (Err e) subject failed is = absurd (no_cause (Err e) e subject failed refl is)

pub lack_no_bad : {T : Type 0} (subject : FaultyItem) → IsErrOf {T = T} (Err faults.NoMemory) (faults.Bad subject) → ⊥
lack_no_bad subject is = cc

-- an answer is no failure
pub no_failure : {T E : Type 0} (x : T) (e : E) → Ok x ≡ Err e → ⊥
no_failure x e is = cc
