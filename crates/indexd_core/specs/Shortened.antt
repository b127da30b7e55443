-- How long the log of a store is behind a run of the program.
use Rattle.std.specs.Prelude.{◌≡◌, ◌⊎◌, Bool, true, false}
use Rattle.ix_disk.specs.declared.disk.Disk.{Ghosts}
use Rattle.ix_replay.specs.Fits.{fits}
use Rattle.ix_run.specs.Resting.{ReadsShort}
use Rattle.indexd_run.specs.Shortened.{HasHadItsRuns}
use Rattle.indexd_core.specs.Locked.{IsLeftAlone}
use Rattle.indexd_core.specs.declared.status.Status.{Status}
use Rattle.indexd_core.specs.declared.status.Status.TheVariants.{Done, Memory, Usage, Configuration, Input, DiskFault, Damaged, Output}
use Rattle.indexd_core.specs.declared.status.Status.TheVariants.{ListenerFault, NotFound, TooManyChannels, Unreadable, Endless, Full}
use Rattle.indexd_core.specs.declared.status.Status.TheVariants.{InUse}

-- whether a run that ends so has made the log short: not where there was no room in memory, or the
-- disk has failed or is damaged
abbrev pub is_short_at : Status → Bool
is_short_at Done = true
is_short_at Memory = false
is_short_at Usage = true
is_short_at Configuration = true
is_short_at Input = true
is_short_at DiskFault = false
is_short_at Damaged = false
is_short_at Output = true
is_short_at ListenerFault = true
is_short_at NotFound = true
is_short_at TooManyChannels = true
is_short_at Unreadable = true
is_short_at Endless = true
is_short_at Full = true
is_short_at InUse = true

-- Behind a run that ends so, the current log is not long, as the disk reads; but where the run has
-- left the disk alone, or where nothing could be mounted.
abbrev pub LeavesShort : Status → {D : Type 0} → Ghosts D → D → D → Type 0
LeavesShort status d disk disk' = is_short_at status ≡ true → ReadsShort d disk'
    ⊎ (IsLeftAlone d disk disk' ⊎ ((status ≡ Full) × HasHadItsRuns d fits disk))
