-- Why a run over a store stops.
use Rattle.std.specs.Prelude.{◌≡◌, ◌⊎◌, ℕ, Bool, true, false, List, Result, Ok, Err}
use Rattle.ix_manifest.specs.declared.fault.CheckpointFault.{CheckpointFault}
use Rattle.ix_manifest.specs.declared.fault.CheckpointFault.TheVariants as checkpoints
use Rattle.ix_commit.specs.declared.fault.CommitFault.{CommitFault}
use Rattle.ix_commit.specs.declared.fault.CommitFault.TheVariants as commits
use Rattle.ix_model.specs.Bounds.{IsRefused}
use Rattle.ix_model.specs.Given.{Chooser}
use Rattle.ix_model.specs.Step.{state_after}
use Rattle.ix_model.specs.declared.answers.Refusal.{Refusal}
use Rattle.ix_model.specs.declared.answers.Refusal.TheVariants as refusals
use Rattle.ix_model.specs.declared.commands.TimedCommand.{TimedCommand}
use Rattle.ix_run.specs.declared.giving.GiveFault.{GiveFault}
use Rattle.ix_run.specs.declared.giving.GiveFault.TheVariants.{Refused, Commit}
use Rattle.ix_run.specs.declared.input.RunFault.{RunFault}
use Rattle.ix_run.specs.declared.input.RunFault.TheVariants as runs
use Rattle.ix_store.specs.declared.fault.ExportFault.{ExportFault}
use Rattle.ix_store.specs.declared.fault.ExportFault.TheVariants as exports
use Rattle.ix_store.specs.declared.fault.MountFault.{MountFault}
use Rattle.ix_store.specs.declared.fault.MountFault.TheVariants as mounts
use Rattle.indexd_run.specs.declared.stop.Stop.{Stop}
use Rattle.indexd_run.specs.declared.stop.Stop.TheVariants as stops

abbrev pub of_mount : MountFault → Stop
of_mount mounts.Disk = stops.Disk
of_mount (mounts.Damaged file at) = stops.Damaged file at
of_mount mounts.Full = stops.Full
of_mount mounts.NoMemory = stops.Memory

abbrev pub of_refusal : Refusal → Stop
of_refusal refusals.Closed = stops.Inconsistent
of_refusal refusals.NoChannel = stops.Inconsistent
of_refusal refusals.ChannelOpen = stops.Inconsistent
of_refusal refusals.UnknownIndex = stops.NotFound
of_refusal refusals.NoBucket = stops.NotFound
of_refusal refusals.NotArchived = stops.NotFound
of_refusal refusals.AlreadyThawed = stops.NotFound
of_refusal refusals.TooManyChannels = stops.TooManyChannels
of_refusal refusals.Full = stops.Full
of_refusal refusals.NoMemory = stops.Memory

abbrev pub of_commit : CommitFault → Stop
of_commit commits.Disk = stops.Disk
of_commit (commits.Damaged file at) = stops.Damaged file at

abbrev pub of_checkpoint : CheckpointFault → Stop
of_checkpoint checkpoints.Disk = stops.Disk
of_checkpoint checkpoints.NoMemory = stops.Memory

abbrev pub of_give : GiveFault → Stop
of_give (Refused refusal) = of_refusal refusal
of_give (Commit fault) = of_commit fault

abbrev pub of_export : ExportFault → Stop
of_export exports.Closed = stops.Inconsistent
of_export exports.UnknownIndex = stops.NotFound
of_export exports.Disk = stops.Disk
of_export (exports.Damaged file at) = stops.Damaged file at
of_export exports.Output = stops.Output
of_export exports.NoMemory = stops.Memory

abbrev pub of_run : RunFault → Stop
of_run (runs.Given fault) = of_give fault
of_run runs.Input = stops.Input
of_run runs.Endless = stops.Endless

-- the disk failed, or did not keep what was committed: what was accepted last may be lost
abbrev pub loses : Stop → Bool
loses stops.Memory = false
loses stops.Disk = true
loses (stops.Damaged file at) = true
loses stops.Inconsistent = false
loses stops.NotFound = false
loses stops.TooManyChannels = false
loses stops.Full = false
loses stops.Output = false
loses stops.Input = false
loses stops.Endless = false

-- a run that is done has lost nothing
abbrev pub loses_in : {T : Type 0} → Result T Stop → Bool
loses_in (Ok done) = false
loses_in (Err stop) = loses stop

-- what the text is written to has failed
abbrev pub is_output : Stop → Bool
is_output stops.Memory = false
is_output stops.Disk = false
is_output (stops.Damaged file at) = false
is_output stops.Inconsistent = false
is_output stops.NotFound = false
is_output stops.TooManyChannels = false
is_output stops.Full = false
is_output stops.Output = true
is_output stops.Input = false
is_output stops.Endless = false

-- an input was not read to its end
abbrev pub is_input : Stop → Bool
is_input stops.Memory = false
is_input stops.Disk = false
is_input (stops.Damaged file at) = false
is_input stops.Inconsistent = false
is_input stops.NotFound = false
is_input stops.TooManyChannels = false
is_input stops.Full = false
is_input stops.Output = false
is_input stops.Input = true
is_input stops.Endless = true

-- why a run stops at a command: the store refused it for its cause, or nothing was committed
abbrev pub Caused : Chooser → ℕ → List TimedCommand → TimedCommand → Stop → Type 0
Caused choose drawn history order stop =
    ((refusal : Refusal) × (stop ≡ of_refusal refusal) × IsRefused choose false drawn (state_after choose history) order refusal)
    ⊎ ((fault : CommitFault) × (stop ≡ of_commit fault))
