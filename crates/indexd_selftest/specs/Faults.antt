-- What faults are to a selftest. Its disk and its links are in memory, and none of their calls is
-- made to fail, so that one fails only where there is no room for it.
use Rattle.std.specs.Prelude.{ℕ, Bool, false, nat_eq, if◌then◌else◌, Result, Ok, Err}
use Rattle.ix_commit.specs.declared.fault.CommitFault.{CommitFault}
use Rattle.ix_commit.specs.declared.fault.CommitFault.TheVariants as commits
use Rattle.ix_model.specs.declared.answers.Refusal.{Refusal}
use Rattle.ix_model.specs.declared.answers.Refusal.TheVariants as refusals
use Rattle.ix_run.specs.declared.giving.GiveFault.{GiveFault}
use Rattle.ix_run.specs.declared.giving.GiveFault.TheVariants as gives
use Rattle.ix_serve.specs.declared.served.Served.{Served}
use Rattle.ix_serve.specs.declared.served.Served.TheVariants as served
use Rattle.ix_serve.specs.declared.served.ServeFault.{ServeFault}
use Rattle.ix_serve.specs.declared.served.ServeFault.TheVariants as serves
use Rattle.ix_store.specs.declared.fault.MountFault.{MountFault}
use Rattle.ix_store.specs.declared.fault.MountFault.TheVariants as mounts
use Rattle.indexd_selftest.specs.declared.fault.SelftestFault.{SelftestFault}
use Rattle.indexd_selftest.specs.declared.fault.SelftestFault.TheVariants.{NoMemory, Full}

-- a reply with this status was written
abbrev pub is_replied : Result Served ServeFault → ℕ → Bool
is_replied (Ok served.Ended) wanted = false
is_replied (Ok (served.Reply status whole unshortened)) wanted = nat_eq status wanted
is_replied (Err fault) wanted = false

-- of a request that was not replied to as it should be; 503 is the reply for want of memory
abbrev pub of_served : Result Served ServeFault → SelftestFault
of_served (Ok served.Ended) = Full
of_served (Ok (served.Reply status whole unshortened)) = if nat_eq status 503 then NoMemory else Full
of_served (Err serves.Disk) = NoMemory
of_served (Err (serves.Damaged file at)) = Full
of_served (Err serves.Link) = NoMemory
of_served (Err serves.Cut) = Full

abbrev pub of_refusal : Refusal → SelftestFault
of_refusal refusals.Closed = Full
of_refusal refusals.NoChannel = Full
of_refusal refusals.ChannelOpen = Full
of_refusal refusals.UnknownIndex = Full
of_refusal refusals.NoBucket = Full
of_refusal refusals.NotArchived = Full
of_refusal refusals.AlreadyThawed = Full
of_refusal refusals.TooManyChannels = Full
of_refusal refusals.Full = Full
of_refusal refusals.NoMemory = NoMemory

abbrev pub of_commit : CommitFault → SelftestFault
of_commit commits.Disk = NoMemory
of_commit (commits.Damaged file at) = Full

abbrev pub of_give : GiveFault → SelftestFault
of_give (gives.Refused refusal) = of_refusal refusal
of_give (gives.Commit fault) = of_commit fault

abbrev pub of_mount : MountFault → SelftestFault
of_mount mounts.Disk = NoMemory
of_mount (mounts.Damaged file at) = Full
of_mount mounts.Full = Full
of_mount mounts.NoMemory = NoMemory
