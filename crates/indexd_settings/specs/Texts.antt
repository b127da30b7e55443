-- The lines that tell of a fault in the settings.
use Rattle.std.specs.Prelude.{ℕ, Bool, ◌||◌, if◌then◌else◌, List, [], ◌++◌, codes, bytes_eq}
use Rattle.ix_props.specs.declared.faults.SettingFault.{SettingFault}
use Rattle.ix_props.specs.declared.faults.SettingFault.TheVariants as props
use Rattle.ix_life.specs.declared.faults.LimitFault.{LimitFault}
use Rattle.ix_life.specs.declared.faults.LimitFault.TheVariants as limits
use Rattle.indexd_settings.specs.Layers.{file_name, refusal_text}
use Rattle.indexd_settings.specs.declared.layers.SettingsFile.{SettingsFile}
use Rattle.indexd_settings.specs.declared.layers.SettingsFile.TheVariants.{Props, Transforms, Indexes, Zones}
use Rattle.indexd_settings.specs.declared.faults.ConfigurationFault.{ConfigurationFault}
use Rattle.indexd_settings.specs.declared.faults.ConfigurationFault.TheVariants as configuration

-- keys of transforms.conf: how a text is changed, and where it comes from and goes to
abbrev pub is_key_of_change : List ℕ → Bool
is_key_of_change key =
    (bytes_eq key (codes "REGEX") || bytes_eq key (codes "FORMAT")) || bytes_eq key (codes "DEFAULT_VALUE")

abbrev pub is_key_of_place : List ℕ → Bool
is_key_of_place key =
    (bytes_eq key (codes "DEST_KEY") || bytes_eq key (codes "SOURCE_KEY")) || bytes_eq key (codes "WRITE_META")

-- the file in which a key of a channel's settings stands
abbrev pub file_of_key : List ℕ → SettingsFile
file_of_key key =
    if (is_key_of_change key || is_key_of_place key) || bytes_eq key (codes "LOOKAHEAD") then Transforms
    else if bytes_eq key (codes "RULE") then Zones
    else Props

abbrev pub stanza_line : SettingsFile → List ℕ → List ℕ → List ℕ
stanza_line file stanza fault =
    codes "indexd: configuration: " ++ file_name file ++ codes " [" ++ stanza ++ codes "]: " ++ fault ++ codes "\n"

abbrev pub value_line : SettingsFile → List ℕ → List ℕ → List ℕ → List ℕ
value_line file stanza key fault =
    codes "indexd: configuration: " ++ file_name file ++ codes " [" ++ stanza ++ codes "] " ++ key ++ codes ": " ++ fault ++ codes "\n"

abbrev pub setting_line : SettingFault → List ℕ
setting_line (props.BadValue stanza key) = value_line (file_of_key key) stanza key (codes "BadValue")
setting_line (props.BadPattern stanza key fault) = value_line (file_of_key key) stanza key (codes "BadPattern")
setting_line (props.UnknownTransform stanza key name) = value_line Props stanza key (codes "UnknownTransform")
setting_line (props.UnknownZone stanza name) = value_line Props stanza (codes "TZ") (codes "UnknownZone")
setting_line (props.BadStanzaPattern stanza) = stanza_line Props stanza (codes "BadStanzaPattern")
setting_line props.NoMemory = []

abbrev pub limit_line : LimitFault → List ℕ
limit_line (limits.BadValue stanza key) = value_line Indexes stanza key (codes "BadValue")
limit_line (limits.BadIndexName stanza) = stanza_line Indexes stanza (codes "BadIndexName")
limit_line limits.NoMemory = []

-- the line of the first fault
abbrev pub fault_line : ConfigurationFault → List ℕ
fault_line (configuration.File file refusal) = refusal_text file refusal
fault_line (configuration.Props fault) = setting_line fault
fault_line (configuration.Indexes fault) = limit_line fault
