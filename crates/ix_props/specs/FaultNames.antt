-- The names of the faults of settings.
use Rattle.std.specs.Prelude.{ℕ, List, codes}
use Rattle.ix_props.specs.declared.faults.SettingFault.{SettingFault}
use Rattle.ix_props.specs.declared.faults.SettingFault.TheVariants.{BadValue, BadPattern, UnknownTransform, UnknownZone, BadStanzaPattern}
use Rattle.ix_props.specs.declared.faults.SettingFault.TheVariants.{NoMemory}

abbrev pub name_of : SettingFault → List ℕ
name_of (BadValue stanza key) = codes "BadValue"
name_of (BadPattern stanza key fault) = codes "BadPattern"
name_of (UnknownTransform stanza key name) = codes "UnknownTransform"
name_of (UnknownZone stanza name) = codes "UnknownZone"
name_of (BadStanzaPattern stanza) = codes "BadStanzaPattern"
name_of NoMemory = codes "NoMemory"
