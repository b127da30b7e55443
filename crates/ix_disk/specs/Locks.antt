-- What a disk tells of the lock by which one program at a time has it.
use Rattle.std.specs.Prelude.{◌≡◌, ◌≢◌, ◌≤◌, ◌<◌, ◌-◌, ℕ, zero, suc, Bool, Option, None, Some, Result, Err, IsErrOf}
use Rattle.ix_base.specs.Faults.{Rose}
use Rattle.ix_disk.specs.declared.disk.LockFault.{LockFault}
use Rattle.ix_disk.specs.declared.disk.LockFault.TheVariants.{InUse, Failed}
use Rattle.ix_disk.specs.Stops.{calls_before}

-- the disk does not know whether another program has it
abbrev pub unknown : Option Bool
unknown = None

-- A call that is no lock leaves what is told of other programs, and the count of refusals.
abbrev pub KeepsLock : Option Bool → Option Bool → ℕ → ℕ → Type 0
KeepsLock told told' refused refused' = (told' ≡ told) × (refused' ≡ refused)

-- The counts never fall, and each of the two faults is answered only where its own count rose. The
-- count of refusals stays under any other answer.
pub record HasLockCause {T : Type 0} (faults faults' refused refused' : ℕ) (result : Result T LockFault) : Type 0 where
  pub later : faults ≤ faults'
  pub later_refused : refused ≤ refused'
  pub failed : IsErrOf result Failed → Rose faults faults'
  pub used : IsErrOf result InUse → Rose refused refused'
  pub stays : result ≢ Err InUse → refused' ≡ refused

-- What a disk that fails calls by itself makes of the lock of the disk inside, as of any other
-- call.
pub record LockStops {D T : Type 0} (faults refused : D → ℕ) (before after : ℕ) (old new : D) (result : Result T LockFault) : Type 0 where
  pub counted : after ≡ before - 1
  pub passed : 0 < before → HasLockCause (faults old) (faults new) (refused old) (refused new) result
  pub stopped : before ≡ 0 → IsErrOf result Failed × (new ≡ old)

pub record LockFailsOne {D T : Type 0} (faults refused : D →
    ℕ) (before after : Option ℕ) (old new : D) (result : Result T LockFault) : Type 0 where
  pub counted : after ≡ calls_before before
  pub passed : before ≢ Some 0 → HasLockCause (faults old) (faults new) (refused old) (refused new) result
  pub failed : before ≡ Some 0 → IsErrOf result Failed × (new ≡ old)
