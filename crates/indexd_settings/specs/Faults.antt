-- The first fault in the settings of a run, and why there are none.
use Rattle.std.specs.Prelude.{◌≡◌, ◌≢◌, ℕ, List, Option, Ok, Err}
use Rattle.ix_base.specs.Faults.{Rose}
use Rattle.ix_fs.specs.declared.trees.TreeFile.{TreeFile}
use Rattle.ix_fs.specs.declared.trees.TreeFault.{TreeFault}
use Rattle.ix_fs.specs.declared.trees.TreeFault.TheVariants as trees
use Rattle.ix_conf.specs.declared.layers.Layer.{Layer}
use Rattle.ix_conf.specs.declared.layers.MergedEntry.{MergedEntry}
use Rattle.ix_props.specs.Props.{AreRead, RefusesProps}
use Rattle.ix_props.specs.declared.props.PropsEntry.{PropsEntry}
use Rattle.ix_props.specs.declared.faults.SettingFault.TheVariants as props
use Rattle.ix_life.specs.Limits.{first_fault, Refuses}
use Rattle.ix_life.specs.declared.faults.LimitFault.TheVariants as limits
use Rattle.indexd_settings.specs.Layers.{settings, ReadAs}
use Rattle.indexd_settings.specs.Merged.{AreMergedFiles}
use Rattle.indexd_settings.specs.declared.layers.LayerStop.{LayerStop}
use Rattle.indexd_settings.specs.declared.layers.LayerStop.TheVariants as layers
use Rattle.indexd_settings.specs.declared.layers.SettingsFile.{SettingsFile}
use Rattle.indexd_settings.specs.declared.layers.SettingsFile.TheVariants.{Props, Transforms, Indexes, Inputs, Zones}
use Rattle.indexd_settings.specs.declared.merged.MergedFiles.{MergedFiles}
use Rattle.indexd_settings.specs.declared.faults.ConfigurationFault.{ConfigurationFault}
use Rattle.indexd_settings.specs.declared.faults.ConfigurationFault.TheVariants as faults
use Rattle.indexd_settings.specs.declared.faults.ConfigurationStop.{ConfigurationStop}
use Rattle.indexd_settings.specs.declared.faults.ConfigurationStop.TheVariants as stops

-- no layer of the file has a fault
abbrev pub IsSound : Option (List TreeFile) → SettingsFile → Type 0
IsSound files file = (layers : List Layer) × ReadAs files (λ all. settings all file) (Ok layers)

-- nor has any of a file that is judged before this one
abbrev pub AreSoundBefore : Option (List TreeFile) → SettingsFile → Type 0
AreSoundBefore files Props = Unit {0}
AreSoundBefore files Transforms = IsSound files Props
AreSoundBefore files Indexes = IsSound files Props × IsSound files Transforms
AreSoundBefore files Inputs = IsSound files Props × IsSound files Transforms × IsSound files Indexes
AreSoundBefore files Zones = IsSound files Props × IsSound files Transforms × IsSound files Indexes × IsSound files Inputs

-- the first fault of indexes.conf
abbrev pub RefusesLimits : List MergedEntry → ConfigurationFault → Type 0
RefusesLimits entries (faults.File file refusal) = ⊥
RefusesLimits entries (faults.Props why) = ⊥
RefusesLimits entries (faults.Indexes why) = (why ≢ limits.NoMemory) × Refuses (first_fault entries) why

-- a value of the merged files is refused: the first one of props.conf, or where it has none, the
-- first one of indexes.conf
abbrev pub RefusesValue : MergedFiles → ConfigurationFault → Type 0
RefusesValue found (faults.File file refusal) = ⊥
RefusesValue found (faults.Props why) = (why ≢ props.NoMemory) × RefusesProps found.transforms found.zones found.props why
RefusesValue found (faults.Indexes why) =
    (read : List PropsEntry) × AreRead found.transforms found.zones found.props read × RefusesLimits found.indexes (faults.Indexes why)

-- The first fault: of a layer of a file, or where no layer of any has one, of a value.
abbrev pub HasFault : Option (List TreeFile) → ConfigurationFault → Type 0
HasFault files (faults.File file refusal) = AreSoundBefore files file × ReadAs files (λ all. settings all file) (Err refusal)
HasFault files (faults.Props why) = (found : MergedFiles) × AreMergedFiles files found × RefusesValue found (faults.Props why)
HasFault files (faults.Indexes why) = (found : MergedFiles) × AreMergedFiles files found × RefusesValue found (faults.Indexes why)

-- Why there are no settings: want of memory, a tree that failed, or the first fault. The two
-- numbers are how often the tree had failed before and after.
abbrev pub Stops : ConfigurationStop → ℕ → ℕ → Option (List TreeFile) → Type 0
Stops stops.Memory failed failed' files = Unit {0}
Stops stops.Input failed failed' files = Rose failed failed'
Stops (stops.Refused fault) failed failed' files = HasFault files fault

-- the first fault of one file
abbrev pub IsFaultIn : SettingsFile → Option (List TreeFile) → ConfigurationFault → Type 0
IsFaultIn file files (faults.File file' refusal) = (file' ≡ file) × ReadAs files (λ all. settings all file) (Err refusal)
IsFaultIn file files (faults.Props why) = ⊥
IsFaultIn file files (faults.Indexes why) = ⊥

-- why one file was not read
abbrev pub StopsIn : SettingsFile → ConfigurationStop → ℕ → ℕ → Option (List TreeFile) → Type 0
StopsIn file stops.Memory failed failed' files = Unit {0}
StopsIn file stops.Input failed failed' files = Rose failed failed'
StopsIn file (stops.Refused fault) failed failed' files = IsFaultIn file files fault

-- a file whose layers were not read stops the reading
abbrev pub stop_in : SettingsFile → LayerStop → ConfigurationStop
stop_in file layers.Memory = stops.Memory
stop_in file layers.Input = stops.Input
stop_in file (layers.Refused refusal) = stops.Refused (faults.File file refusal)

-- why values were refused; the tree is not asked for them
abbrev pub StopsAt : MergedFiles → ConfigurationStop → Type 0
StopsAt found stops.Memory = Unit {0}
StopsAt found stops.Input = ⊥
StopsAt found (stops.Refused fault) = RefusesValue found fault

abbrev pub StopsAtLimits : List MergedEntry → ConfigurationStop → Type 0
StopsAtLimits entries stops.Memory = Unit {0}
StopsAtLimits entries stops.Input = ⊥
StopsAtLimits entries (stops.Refused fault) = RefusesLimits entries fault

-- why a failed tree stops the reading
abbrev pub stop_of : TreeFault → ConfigurationStop
stop_of trees.Failed = stops.Input
stop_of trees.Missing = stops.Input
stop_of trees.NoMemory = stops.Memory
