-- The inputs that the files of a tree give, beside the settings that a store is to go by. A command
-- that monitors files alone judges them, behind all else.
use Rattle.std.specs.Prelude.{◌≡◌, ◌≢◌, ℕ, List, [], Option, None, codes}
use Rattle.ix_fs.specs.declared.trees.TreeFile.{TreeFile}
use Rattle.ix_conf.specs.declared.layers.MergedEntry.{MergedEntry}
use Rattle.ix_life.specs.declared.sets.LimitSet.{LimitSet}
use Rattle.ix_monitor.specs.Inputs.{first_fault, Refuses, inputs as listed}
use Rattle.ix_monitor.specs.declared.faults.InputFault.{InputFault}
use Rattle.ix_monitor.specs.declared.faults.InputFault.TheVariants as faults
use Rattle.ix_monitor.specs.declared.inputs.Input.{Input}
use Rattle.ix_model.specs.declared.commands.Config.{Config}
use Rattle.indexd_settings.specs.Faults.{Stops, StopsAt}
use Rattle.indexd_settings.specs.Given.{IsConfigOf, IsGivenBy}
use Rattle.indexd_settings.specs.Merged.{IsMergedOf}
use Rattle.indexd_settings.specs.Texts.{value_line, stanza_line}
use Rattle.indexd_settings.specs.declared.layers.SettingsFile.TheVariants.{Inputs}
use Rattle.indexd_settings.specs.declared.merged.MergedFiles.{MergedFiles}
use Rattle.indexd_settings.specs.declared.faults.ConfigurationStop.TheVariants as reading
use Rattle.indexd_settings.specs.declared.inputs.MonitorStop.{MonitorStop}
use Rattle.indexd_settings.specs.declared.inputs.MonitorStop.TheVariants as stops

-- inputs.conf has no fault with these indexes, and watches these files
pub record AreInputsOf (files : Option (List TreeFile)) (limits : LimitSet) (inputs : List Input) : Type 0 where
  pub found : List MergedEntry
  pub merged : IsMergedOf files Inputs found
  pub sound : first_fault limits found ≡ None
  pub are : inputs ≡ listed found

-- The other files have no fault, and this is the first one of inputs.conf.
pub record HasInputFault (files : Option (List TreeFile)) (why : InputFault) : Type 0 where
  pub config : Config
  pub given : IsConfigOf files config
  pub found : List MergedEntry
  pub merged : IsMergedOf files Inputs found
  pub other : why ≢ faults.NoMemory
  pub first : Refuses (first_fault config.limits found) why

-- what merged files give
pub record AreGivenBy (found : MergedFiles) (config : Config) (inputs : List Input) : Type 0 where
  pub given : IsGivenBy found config
  pub sound : first_fault config.limits found.inputs ≡ None
  pub are : inputs ≡ listed found.inputs

-- why their inputs are refused; the tree is not asked for them
abbrev pub StopsInputs : List MergedEntry → LimitSet → MonitorStop → Type 0
StopsInputs entries limits (stops.Settings stop) = stop ≡ reading.Memory
StopsInputs entries limits (stops.Inputs why) = (why ≢ faults.NoMemory) × Refuses (first_fault limits entries) why

-- why their values are
abbrev pub StopsValues : MergedFiles → MonitorStop → Type 0
StopsValues found (stops.Settings stop) = StopsAt found stop
StopsValues found (stops.Inputs why) = (config : Config) × IsGivenBy found config × (why ≢ faults.NoMemory)
    × Refuses (first_fault config.limits found.inputs) why

-- why there are no settings or no inputs; the two numbers are how often the tree had failed before
-- and after
abbrev pub StopsMonitor : MonitorStop → ℕ → ℕ → Option (List TreeFile) → Type 0
StopsMonitor (stops.Settings stop) failed failed' files = Stops stop failed failed' files
StopsMonitor (stops.Inputs why) failed failed' files = HasInputFault files why

-- the line of the first fault of inputs.conf
abbrev pub input_line : InputFault → List ℕ
input_line (faults.BadValue stanza key) = value_line Inputs stanza key (codes "BadValue")
input_line (faults.BadStanza stanza) = stanza_line Inputs stanza (codes "BadStanza")
input_line faults.NoMemory = []
