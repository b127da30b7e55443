-- What comes of whatever the words ask for. The clauses of `top` follow from it, each by a field.
use Rattle.std.specs.Prelude.{◌≡◌, ◌≤◌, ◌⊎◌, true, false, Option, Some, None}
use Rattle.ix_base.specs.Faults.{Rose}
use Rattle.ix_disk.specs.declared.disk.Disk.{Ghosts}
use Rattle.ix_serve.specs.Serving.{IsTold}
use Rattle.indexd_settings.specs.Layers.{file_named}
use Rattle.indexd_settings.specs.declared.layers.SettingsFile.{SettingsFile}
use Rattle.indexd_cli.specs.Orders.{Asked, preview, btool, feed, serve, monitor, buckets, export, roll, thaw, tick, selftest}
use Rattle.indexd_run.specs.declared.task.Task.{Task}
use Rattle.indexd_core.specs.Around.{Around, but_store}
use Rattle.indexd_core.specs.Blamed.{NamesDamage}
use Rattle.indexd_core.specs.Btool.{Tells}
use Rattle.indexd_core.specs.Commands.{is_built, is_stored, asked_for}
use Rattle.indexd_core.specs.Feeds.{Feeds}
use Rattle.indexd_core.specs.Locked.{HasRefused, EndsUsed}
use Rattle.indexd_core.specs.Monitors.{Monitors}
use Rattle.indexd_core.specs.Runs.{Previews, Refuses}
use Rattle.indexd_core.specs.Selftests.{Tests, OnlyWrites, LacksRoom}
use Rattle.indexd_core.specs.Serves.{Serves}
use Rattle.indexd_core.specs.Shortened.{LeavesShort}
use Rattle.indexd_core.specs.Stored.{FromStart, Stored, Tasked}
use Rattle.indexd_core.specs.declared.status.Status.{Status}
use Rattle.indexd_core.specs.declared.status.Status.TheVariants.{Usage, Input, DiskFault, Damaged, Output, ListenerFault, Full, InUse}

-- a task that is asked for so was run, and the input was left alone
abbrev pub TaskOf : Asked → Status → {D : Type 0} → Ghosts D → Around D → Around D → Type 0
TaskOf asked status d old new =
    (task : Task) × (asked_for task ≡ asked)
    × Tasked status task d old new
    × (new.input ≡ old.input)

-- What comes of each command. `btool` leaves the input and the clock alone, `serve` and `monitor` the
-- input, and `selftest` all but the output.
abbrev pub ComesOf : Option Asked → Status → {D : Type 0} → Ghosts D → Around D → Around D → Type 0
ComesOf None status d old new = Unit {0}
ComesOf (Some (preview host source sourcetype index false)) status d old new =
    Previews status (record { host = host; source = source; sourcetype = sourcetype; index = index }) (but_store old) (but_store new)
ComesOf (Some (preview host source sourcetype index true)) status d old new =
    Stored status (record { host = host; source = source; sourcetype = sourcetype; index = index }) d old new
ComesOf (Some (btool name)) status d old new =
    ((file : SettingsFile) → file_named name ≡ Some file → Tells status file old.files old.failed new.failed old.output new.output)
    × (new.input ≡ old.input) × (new.ahead ≡ old.ahead)
ComesOf (Some feed) status d old new = Feeds status d old new
ComesOf (Some (serve port requests)) status d old new = Serves status requests d old new × (new.input ≡ old.input)
ComesOf (Some (monitor close)) status d old new = Monitors status close d old new × (new.input ≡ old.input)
ComesOf (Some buckets) status d old new = TaskOf buckets status d old new
ComesOf (Some (export index range)) status d old new = TaskOf (export index range) status d old new
ComesOf (Some (roll index)) status d old new = TaskOf (roll index) status d old new
ComesOf (Some (thaw index id)) status d old new = TaskOf (thaw index id) status d old new
ComesOf (Some tick) status d old new = TaskOf tick status d old new
ComesOf (Some (selftest seed count)) status d old new = Tests status seed count old.output new.output × OnlyWrites old new

-- no command changes the files, each takes back all connections, and no count falls
pub record Keeps {D : Type 0} (d : Ghosts D) (old new : Around D) : Type 0 where
  pub files : new.files ≡ old.files
  pub out : new.out ≡ old.out
  pub told : IsTold d old.disk → IsTold d new.disk
  pub disk_later : d.faults old.disk ≤ d.faults new.disk
  pub heard_later : old.deaf ≤ new.deaf
  pub read_later : old.input.faults ≤ new.input.faults
  pub written_later : old.output.faults ≤ new.output.faults
  pub tree_later : old.failed ≤ new.failed
  pub missing_later : old.missing ≤ new.missing

-- the causes of statuses, of what is asked for
pub record HasCause (asked : Option Asked) (status : Status) {D : Type 0} (d : Ghosts D) (old new : Around D) : Type 0 where
  pub input : status ≡ Input → Rose old.input.faults new.input.faults ⊎ Rose old.failed new.failed
  pub output : status ≡ Output → Rose old.output.faults new.output.faults
  pub disk : status ≡ DiskFault → Rose (d.faults old.disk) (d.faults new.disk)
  pub listener : status ≡ ListenerFault → Rose old.deaf new.deaf
  pub undamaged : status ≡ Damaged → FromStart d old.disk (λ past. ⊥)
  pub blamed : status ≡ Damaged → NamesDamage d old.disk new.disk old.output new.output
  pub full : status ≡ Full → LacksRoom asked d old.disk
  pub in_use : status ≡ InUse → HasRefused d old.disk new.disk

-- what comes of what is asked for, or of words that ask for nothing
pub record Carries (asked : Option Asked) (status : Status) {D : Type 0} (d : Ghosts D) (old new : Around D) : Type 0 where
  pub usage : status ≡ Usage → is_built asked ≡ false
  pub refused : is_built asked ≡ false → Refuses status (but_store old) (but_store new)
  pub comes : ComesOf asked status d old new
  pub untouched : is_stored asked ≡ false → new.disk ≡ old.disk
  pub used : d.in_use old.disk ≡ Some true → is_stored asked ≡ true → EndsUsed status d old.disk new.disk
  pub short : LeavesShort status d old.disk new.disk
  pub keeps : Keeps d old new
  pub cause : HasCause asked status d old new
