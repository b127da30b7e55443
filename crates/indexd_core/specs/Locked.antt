-- The store of a disk is taken for one program, and how a run ends that is not given it.
use Rattle.std.specs.Prelude.{◌≡◌, ◌≢◌, ◌⊎◌, Bool, true, false, Some}
use Rattle.ix_base.specs.Faults.{Rose}
use Rattle.ix_disk.specs.Image.{Passes, Stays}
use Rattle.ix_disk.specs.declared.disk.Disk.{Ghosts}
use Rattle.indexd_core.specs.declared.status.Status.{Status}
use Rattle.indexd_core.specs.declared.status.Status.TheVariants.{Done, Memory, Usage, Configuration, Input, DiskFault, Damaged, Output}
use Rattle.indexd_core.specs.declared.status.Status.TheVariants.{ListenerFault, NotFound, TooManyChannels, Unreadable, Endless, Full}
use Rattle.indexd_core.specs.declared.status.Status.TheVariants.{InUse}

-- The disk reads as it did, and no image of it has changed.
pub record IsLeftAlone {D : Type 0} (d : Ghosts D) (disk disk' : D) : Type 0 where
  pub same : d.seen disk' ≡ d.seen disk
  pub images : Passes d.may_leave d.moment d.left_since disk disk' Stays

-- Another program has the disk: it was asked for the store and has refused it, which it does not
-- where it knows that no other has it.
pub record HasRefused {D : Type 0} (d : Ghosts D) (disk disk' : D) : Type 0 where
  pub counted : Rose (d.refused disk) (d.refused disk')
  pub others : d.in_use disk ≢ Some false
  pub alone : IsLeftAlone d disk disk'

-- The disk was asked for the store and has failed, which it does not where it knows that another
-- program has it.
pub record HasFailed {D : Type 0} (d : Ghosts D) (disk disk' : D) : Type 0 where
  pub counted : Rose (d.faults disk) (d.faults disk')
  pub no_others : d.in_use disk ≢ Some true
  pub alone : IsLeftAlone d disk disk'

-- A run that ends so was not given the store.
abbrev pub IsLockedOut : Status → {D : Type 0} → Ghosts D → D → D → Type 0
IsLockedOut status d disk disk' = ((status ≡ InUse) × HasRefused d disk disk') ⊎ ((status ≡ DiskFault) × HasFailed d disk disk')

-- what may end a run before it asks for the store: want of memory, the words, the settings, the
-- files of the tree, the port
abbrev pub is_before_store : Status → Bool
is_before_store Done = false
is_before_store Memory = true
is_before_store Usage = true
is_before_store Configuration = true
is_before_store Input = true
is_before_store DiskFault = false
is_before_store Damaged = false
is_before_store Output = false
is_before_store ListenerFault = true
is_before_store NotFound = false
is_before_store TooManyChannels = false
is_before_store Unreadable = false
is_before_store Endless = false
is_before_store Full = false
is_before_store InUse = false

-- How a run over the store ends where another program has it: by that, or by what comes before.
-- Nothing of the disk was changed.
pub record EndsUsed (status : Status) {D : Type 0} (d : Ghosts D) (disk disk' : D) : Type 0 where
  pub status_is : (status ≡ InUse) ⊎ (is_before_store status ≡ true)
  pub alone : IsLeftAlone d disk disk'
