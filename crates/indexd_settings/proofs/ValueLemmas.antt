-- Values that are refused, and want of memory.
use Rattle.std.proofs.Common.{◌≡◌, ◌≢◌, ℕ, List, Option, refl, sym, subst}
use Rattle.ix_fs.specs.declared.trees.TreeFile.{TreeFile}
use Rattle.ix_props.specs.Props.{RefusesProps}
use Rattle.ix_props.specs.declared.faults.SettingFault.{SettingFault}
use Rattle.ix_props.specs.declared.faults.SettingFault.TheVariants as props
use Rattle.indexd_settings.specs.Faults.{StopsAt, Stops}
use Rattle.indexd_settings.specs.Merged.{AreMergedFiles}
use Rattle.indexd_settings.specs.declared.merged.MergedFiles.{MergedFiles}
use Rattle.indexd_settings.specs.declared.faults.ConfigurationFault.TheVariants as faults
use Rattle.indexd_settings.specs.declared.faults.ConfigurationStop.{ConfigurationStop}
use Rattle.indexd_settings.specs.declared.faults.ConfigurationStop.TheVariants as stops

refused : (found : MergedFiles) (why : SettingFault) (stop : ConfigurationStop) → why ≢ props.NoMemory →
    (why ≢ props.NoMemory → stop ≡ stops.Refused (faults.Props why)) →
    RefusesProps found.transforms found.zones found.props why → StopsAt found stop
refused found why stop other is refuses =
    subst (λ (s : ConfigurationStop). StopsAt found s) (sym (is other)) (other, refuses)

-- a refusal of props.conf is want of memory, or the first fault
pub stops-at : (found : MergedFiles) (why : SettingFault) (stop : ConfigurationStop) → (why ≡ props.NoMemory → stop ≡ stops.Memory) →
    (why ≢ props.NoMemory → stop ≡ stops.Refused (faults.Props why)) →
    RefusesProps found.transforms found.zones found.props why → StopsAt found stop
stops-at found props.NoMemory stop memory is refuses =
    subst (λ (s : ConfigurationStop). StopsAt found s) (sym (memory refl)) tt
stops-at found (props.BadValue stanza key) stop memory is refuses =
    refused found (props.BadValue stanza key) stop (λ e. (cc)) is refuses
stops-at found (props.BadPattern stanza key fault) stop memory is refuses =
    refused found (props.BadPattern stanza key fault) stop (λ e. (cc)) is refuses
stops-at found (props.UnknownTransform stanza key name) stop memory is refuses =
    refused found (props.UnknownTransform stanza key name) stop (λ e. (cc)) is refuses
stops-at found (props.UnknownZone stanza name) stop memory is refuses =
    refused found (props.UnknownZone stanza name) stop (λ e. (cc)) is refuses
stops-at found (props.BadStanzaPattern stanza) stop memory is refuses =
    refused found (props.BadStanzaPattern stanza) stop (λ e. (cc)) is refuses

-- where a value is refused there are no settings
pub values-stop : (files : Option (List TreeFile)) (found : MergedFiles) (stop : ConfigurationStop) (failed failed' : ℕ) →
    AreMergedFiles files found → StopsAt found stop → Stops stop failed failed' files
values-stop files found stops.Memory failed failed' merged stop = tt
values-stop files found stops.Input failed failed' merged stop = absurd stop
values-stop files found (stops.Refused (faults.File file refusal)) failed failed' merged stop = absurd stop
values-stop files found (stops.Refused (faults.Props why)) failed failed' merged stop = (found, merged, stop)
values-stop files found (stops.Refused (faults.Indexes why)) failed failed' merged stop = (found, merged, stop)
