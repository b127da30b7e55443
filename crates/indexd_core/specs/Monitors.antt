-- A run that monitors files: what it gives to a store and writes, by the status with which it ends.
use Rattle.std.specs.Prelude.{◌≡◌, ◌⊎◌, Bool, false, List, Option, Ok, Err, codes}
use Rattle.ix_fs.specs.declared.trees.TreeFile.{TreeFile}
use Rattle.ix_disk.specs.declared.disk.Disk.{Ghosts}
use Rattle.ix_monitor.specs.declared.faults.InputFault.{InputFault}
use Rattle.ix_monitor.specs.declared.inputs.Input.{Input}
use Rattle.ix_model.specs.declared.commands.Config.{Config}
use Rattle.indexd_settings.specs.Given.{IsConfigOf}
use Rattle.indexd_settings.specs.Inputs.{AreInputsOf, HasInputFault, input_line}
use Rattle.indexd_run.specs.Opened.{Course}
use Rattle.indexd_run.specs.Stops.{is_output}
use Rattle.indexd_monitor.specs.Monitored.{HasMonitored}
use Rattle.indexd_core.specs.Around.{Around, course_of}
use Rattle.indexd_core.specs.Locked.{IsLockedOut}
use Rattle.indexd_core.specs.Sides.{Side}
use Rattle.indexd_core.specs.Stored.{Comes, Whole}
use Rattle.indexd_core.specs.Texts.{Said}
use Rattle.indexd_core.specs.declared.status.Status.{Status}
use Rattle.indexd_core.specs.declared.status.Status.TheVariants.{Configuration}

-- A run with these settings, over the files of these inputs. One that stops has written nothing
-- before its line but where the output has failed, and then a first part of the lines.
abbrev pub MonitorComes : Status → {D : Type 0} → Ghosts D → Course D → Option (List TreeFile) → List Input → Bool → Side → Side → Type 0
MonitorComes status d run files inputs close output output' = Comes status d run (codes "") (record {
  whole = λ choose. HasMonitored choose files inputs close (Ok tt) run.ahead' output.told output'.told;
  untouched = λ middle. middle.told ≡ output.told;
  part = λ stop middle choose. HasMonitored choose files inputs close (Err stop) run.ahead' output.told middle.told;
  wrote = λ stop middle. is_output stop ≡ false → middle.told ≡ output.told;
}) output'

-- the files have no fault, nor has inputs.conf with their indexes
pub record HaveInputs (files : Option (List TreeFile)) : Type 0 where
  pub config : Config
  pub given : IsConfigOf files config
  pub inputs : List Input
  pub are : AreInputsOf files config.limits inputs

-- The other files have no fault, and the line of the first one of inputs.conf was written; nothing
-- else was done.
pub record Misjudged (status : Status) {D : Type 0} (from to : Around D) : Type 0 where
  pub status_is : status ≡ Configuration
  pub fault : InputFault
  pub first : HasInputFault from.files fault
  pub line : Said (input_line fault) from.output to.output
  pub not_asked : to.ahead ≡ from.ahead
  pub alone : to.disk ≡ from.disk

-- A whole run. Exactly where a settings file has a fault, or where inputs.conf has one with the
-- indexes of the others, the status is `Configuration`, unless memory is short or the tree fails.
abbrev pub Monitors : Status → Bool → {D : Type 0} → Ghosts D → Around D → Around D → Type 0
Monitors status close d from to =
    Misjudged status from to
    ⊎ Whole status from to ((to.ahead ≡ from.ahead) × (to.disk ≡ from.disk))
    ((to.ahead ≡ from.ahead) × IsLockedOut status d from.disk to.disk × HaveInputs from.files)
    (λ config. (inputs : List Input) × AreInputsOf from.files config.limits inputs
    × MonitorComes status d (course_of config from to) from.files inputs close from.output to.output)
