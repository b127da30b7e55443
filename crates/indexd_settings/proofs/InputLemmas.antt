-- Inputs that are refused, and want of memory.
use Rattle.std.proofs.Common.{◌≡◌, ◌≢◌, ℕ, List, Option, refl, sym, subst}
use Rattle.ix_fs.specs.declared.trees.TreeFile.{TreeFile}
use Rattle.ix_conf.specs.declared.layers.MergedEntry.{MergedEntry}
use Rattle.ix_life.specs.declared.sets.LimitSet.{LimitSet}
use Rattle.ix_monitor.specs.Inputs.{first_fault, Refuses}
use Rattle.ix_monitor.specs.declared.faults.InputFault.{InputFault}
use Rattle.ix_monitor.specs.declared.faults.InputFault.TheVariants as faults
use Rattle.indexd_settings.specs.Inputs.{StopsInputs, StopsValues, StopsMonitor}
use Rattle.indexd_settings.specs.Merged.{AreMergedFiles}
use Rattle.indexd_settings.specs.declared.merged.MergedFiles.{MergedFiles}
use Rattle.indexd_settings.specs.declared.faults.ConfigurationStop.TheVariants as reading
use Rattle.indexd_settings.specs.declared.inputs.MonitorStop.{MonitorStop}
use Rattle.indexd_settings.specs.declared.inputs.MonitorStop.TheVariants as stops
use Rattle.indexd_settings.proofs.ValueLemmas.{values-stop}

refused : (entries : List MergedEntry) (limits : LimitSet) (why : InputFault) (stop : MonitorStop) → why ≢ faults.NoMemory →
    (why ≢ faults.NoMemory → stop ≡ stops.Inputs why) → Refuses (first_fault limits entries) why → StopsInputs entries limits stop
refused entries limits why stop other is refuses =
    subst (λ (s : MonitorStop). StopsInputs entries limits s) (sym (is other)) (other, refuses)

-- a refusal of inputs.conf is want of memory, or the first fault
pub inputs-stop : (entries : List MergedEntry) (limits : LimitSet) (why : InputFault) (stop : MonitorStop) →
    (why ≡ faults.NoMemory → stop ≡ stops.Settings reading.Memory) → (why ≢ faults.NoMemory → stop ≡ stops.Inputs why) →
    Refuses (first_fault limits entries) why → StopsInputs entries limits stop
inputs-stop entries limits faults.NoMemory stop memory is refuses =
    subst (λ (s : MonitorStop). StopsInputs entries limits s) (sym (memory refl)) refl
inputs-stop entries limits (faults.BadValue stanza key) stop memory is refuses =
    refused entries limits (faults.BadValue stanza key) stop (λ e. (cc)) is refuses
inputs-stop entries limits (faults.BadStanza stanza) stop memory is refuses =
    refused entries limits (faults.BadStanza stanza) stop (λ e. (cc)) is refuses

-- where a value is refused there are no settings, or no inputs
pub monitor-stop : (files : Option (List TreeFile)) (found : MergedFiles) (stop : MonitorStop) (failed failed' : ℕ) →
    AreMergedFiles files found → StopsValues found stop → StopsMonitor stop failed failed' files
monitor-stop files found (stops.Settings stop) failed failed' merged refused = values-stop files found stop failed failed' merged refused
monitor-stop files found (stops.Inputs why) failed failed' merged refused = record {
  config = refused.0;
  given = record { found = found; merged = merged; given = refused.1 };
  found = found.inputs;
  merged = merged.inputs;
  other = refused.2;
  first = refused.3;
}
