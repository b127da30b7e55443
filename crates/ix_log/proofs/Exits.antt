-- What an answer of a log is not.
use Rattle.std.proofs.Common.{ℕ, Ok, Err}
use Rattle.std.specs.Prelude.{IsErrOf}
use Rattle.ix_log.specs.declared.log.LogFault.TheVariants as faults

-- an answer is no fault, and one fault is no other
pub no_fault : {T E : Type 0} (x : T) (e : E) → IsErrOf (Ok x) e → ⊥
no_fault x e is = cc

pub disk_no_damage : {T : Type 0} (at : ℕ) → IsErrOf {T = T} (Err faults.Disk) (faults.Damaged at) → ⊥
disk_no_damage at is = cc

pub disk_no_memory : {T : Type 0} → IsErrOf {T = T} (Err faults.Disk) faults.NoMemory → ⊥
disk_no_memory is = cc

pub memory_no_damage : {T : Type 0} (at : ℕ) → IsErrOf {T = T} (Err faults.NoMemory) (faults.Damaged at) → ⊥
memory_no_damage at is = cc

pub memory_no_disk : {T : Type 0} → IsErrOf {T = T} (Err faults.NoMemory) faults.Disk → ⊥
memory_no_disk is = cc

pub damage_no_disk : {T : Type 0} (at : ℕ) → IsErrOf {T = T} (Err (faults.Damaged at)) faults.Disk → ⊥
damage_no_disk at is = cc

pub damage_no_memory : {T : Type 0} (at : ℕ) → IsErrOf {T = T} (Err (faults.Damaged at)) faults.NoMemory → ⊥
damage_no_memory at is = cc

-- a fault that is handed on is the one that it was
pub same_fault : {T X E : Type 0} (own named : E) → IsErrOf {T = T} (Err own) named → IsErrOf {T = X} (Err own) named
same_fault own named is = cc
