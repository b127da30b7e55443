-- What a run blames as damaged is what a layer below has found damaged.
use Rattle.std.proofs.Common.{◌≡◌, ℕ, Option, None, Some, inl, inr, refl}
use Rattle.ix_base.specs.Told.{Told}
use Rattle.ix_base.specs.declared.files.File.{File}
use Rattle.ix_disk.specs.Image.{Image}
use Rattle.ix_commit.specs.declared.fault.CommitFault.TheVariants as commits
use Rattle.ix_life.specs.declared.views.View.{View}
use Rattle.ix_model.specs.declared.answers.Refusal.{Refusal}
use Rattle.ix_model.specs.declared.answers.Refusal.TheVariants as refusals
use Rattle.ix_run.specs.declared.giving.GiveFault.{GiveFault}
use Rattle.ix_run.specs.declared.giving.GiveFault.TheVariants.{Refused, Commit}
use Rattle.ix_run.specs.declared.input.RunFault.{RunFault}
use Rattle.ix_run.specs.declared.input.RunFault.TheVariants as runs
use Rattle.ix_store.specs.declared.fault.ExportFault.{ExportFault}
use Rattle.ix_store.specs.declared.fault.ExportFault.TheVariants as exports
use Rattle.ix_store.specs.declared.fault.MountFault.{MountFault}
use Rattle.ix_store.specs.declared.fault.MountFault.TheVariants as mounts
use Rattle.indexd_run.specs.Stops.{of_mount, of_refusal, of_give, of_export, of_run}
use Rattle.indexd_run.specs.Tasks.{IsUnsaid}
use Rattle.indexd_run.specs.declared.stop.Stop.TheVariants as stops
use Rattle.indexd_run.specs.declared.task.Task.{Task}

pub damaged_of_mount : (fault : MountFault) (file : File) (at : ℕ) → of_mount fault ≡ stops.Damaged file at → fault ≡ mounts.Damaged file at
damaged_of_mount mounts.Disk file at is = cc
damaged_of_mount (mounts.Damaged f a) file at is = cc
damaged_of_mount mounts.Full file at is = cc
damaged_of_mount mounts.NoMemory file at is = cc

undamaged_refusal : (refusal : Refusal) (file : File) (at : ℕ) → of_refusal refusal ≡ stops.Damaged file at → ⊥
undamaged_refusal refusals.Closed file at is = cc
undamaged_refusal refusals.NoChannel file at is = cc
undamaged_refusal refusals.ChannelOpen file at is = cc
undamaged_refusal refusals.UnknownIndex file at is = cc
undamaged_refusal refusals.NoBucket file at is = cc
undamaged_refusal refusals.NotArchived file at is = cc
undamaged_refusal refusals.AlreadyThawed file at is = cc
undamaged_refusal refusals.TooManyChannels file at is = cc
undamaged_refusal refusals.Full file at is = cc
undamaged_refusal refusals.NoMemory file at is = cc

pub damaged_of_give : (fault : GiveFault) (file : File) (at : ℕ) → of_give fault ≡ stops.Damaged file at →
    fault ≡ Commit (commits.Damaged file at)
damaged_of_give (Refused refusal) file at is = absurd (undamaged_refusal refusal file at is)
damaged_of_give (Commit commits.Disk) file at is = cc
damaged_of_give (Commit (commits.Damaged f a)) file at is = cc

pub damaged_of_run : (fault : RunFault) (file : File) (at : ℕ) → of_run fault ≡ stops.Damaged file at →
    fault ≡ runs.Given (Commit (commits.Damaged file at))
damaged_of_run (runs.Given (Refused refusal)) file at is = absurd (undamaged_refusal refusal file at is)
damaged_of_run (runs.Given (Commit commits.Disk)) file at is = cc
damaged_of_run (runs.Given (Commit (commits.Damaged f a))) file at is = cc
damaged_of_run runs.Input file at is = cc
damaged_of_run runs.Endless file at is = cc

pub damaged_of_export : (fault : ExportFault) (file : File) (at : ℕ) → of_export fault ≡ stops.Damaged file at →
    fault ≡ exports.Damaged file at
damaged_of_export exports.Closed file at is = cc
damaged_of_export exports.UnknownIndex file at is = cc
damaged_of_export exports.Disk file at is = cc
damaged_of_export (exports.Damaged f a) file at is = cc
damaged_of_export exports.Output file at is = cc
damaged_of_export exports.NoMemory file at is = cc

-- a text that is not said blames no file
pub unsaid_undamaged : (task : Task) (view : View) (file : File) (at : ℕ) → IsUnsaid task view (stops.Damaged file at) → ⊥
unsaid_undamaged task view file at (inl is) = cc
unsaid_undamaged task view file at (inr (inl is)) = cc
unsaid_undamaged task view file at (inr (inr is)) = let e : stops.Damaged file at ≡ stops.Inconsistent = is.0 in cc

-- an object that tells goes on telling
pub seen_on : (step : Image → Image → Type 0) (old new : Option Image) (image : Image) → Told step old new → old ≡ Some image →
    (later : Image) × (new ≡ Some later)
seen_on step None None image told is = absurd (cc)
seen_on step None (Some later) image told is = absurd (cc)
seen_on step (Some before) None image told is = absurd told
seen_on step (Some before) (Some later) image told is = (later, refl)
