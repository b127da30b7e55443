-- Settings as they are kept, and the values that they give.
use Rattle.std.specs.Prelude.{◌≤◌, ◌==◌, ℕ, if◌then◌else◌, List, [], ◌∷◌, length, filter, map, codes}
use Rattle.std.specs.List.{AllByRecursion}
use Rattle.ix_base.specs.declared.events.ChannelMeta.{ChannelMeta}
use Rattle.ix_conf.specs.Value.{AreMerged}
use Rattle.ix_conf.specs.Zones.{zone_entries, zones}
use Rattle.ix_conf.specs.declared.entries.Entry.{Entry}
use Rattle.ix_conf.specs.declared.entries.Entry.TheVariants.{Stanza, Pair}
use Rattle.ix_conf.specs.declared.layers.Layer.{Layer}
use Rattle.ix_conf.specs.declared.layers.MergedEntry.{MergedEntry}
use Rattle.ix_items.specs.declared.items.Kept.{Kept}
use Rattle.ix_model.specs.Given.{Chooser, entry}
use Rattle.ix_model.specs.declared.commands.Config.{Config}
use Rattle.ix_props.specs.Props.{AreRead}
use Rattle.ix_props.specs.Same.{AreSame}
use Rattle.ix_props.specs.Settings.{AreSettings}
use Rattle.ix_props.specs.declared.props.PropsEntry.{PropsEntry}
use Rattle.ix_props.specs.declared.settings.Settings.{Settings}
use Rattle.ix_model.specs.Shelved.{IsSet}

-- ---- what is kept of one file: 1 is props.conf, 2 transforms.conf, 3 indexes.conf and 4
-- zones.conf

abbrev pub kept_in : ℕ → List Kept → List Kept
kept_in file force = filter (λ (kept : Kept). kept.file == file) force

-- an entry without a key says that its stanza is there
abbrev pub said : Kept → Entry
said kept = if length kept.key == 0 then Stanza kept.stanza else Pair kept.stanza kept.key kept.value

abbrev pub layer_in : ℕ → List Kept → Layer
layer_in file force = record { name = []; file = map said (kept_in file force) }

abbrev pub built_in : Layer
built_in = record { name = codes "built-in"; file = zone_entries zones }

-- from this file on they stand file by file
abbrev pub AreByFile : ℕ → List Kept → Type 0
AreByFile file [] = Unit {0}
AreByFile file (kept ∷ force) = ((file ≤ kept.file) × (kept.file ≤ 4)) × AreByFile kept.file force

-- of a file they stand in the order of the bytes of their stanza and then of their key, each stanza
-- and key once, with an entry of each stanza itself, which has no value: they are what they merge
-- to
abbrev pub IsWhole : ℕ → List Kept → Type 0
IsWhole file force = AreMerged (layer_in file force ∷ []) (map entry (kept_in file force))

pub record AreInOrder (force : List Kept) : Type 0 where
  pub files : AreByFile 1 force
  pub props : IsWhole 1 force
  pub transforms : IsWhole 2 force
  pub indexes : IsWhole 3 force
  pub zones : IsWhole 4 force

-- ---- their values

-- the settings of channels that they give, with the built-in time zones behind those that are kept
pub record AreProps (force : List Kept) (loaded : List PropsEntry) : Type 0 where
  pub props : List MergedEntry
  pub transforms : List MergedEntry
  pub zones : List MergedEntry
  pub props_are : AreMerged (layer_in 1 force ∷ []) props
  pub transforms_are : AreMerged (layer_in 2 force ∷ []) transforms
  pub zones_are : AreMerged (layer_in 4 force ∷ built_in ∷ []) zones
  pub read : AreRead transforms zones props loaded

-- The settings that a store goes by are those that are kept.
pub record IsConfig (config : Config) : Type 0 where
  pub order : AreInOrder config.kept
  -- names of stanzas have at most 1,024 bytes
  pub stanzas : AllByRecursion (λ (kept : Kept). length kept.stanza ≤ 1024) config.kept
  pub props : AreProps config.kept config.props
  pub limits : IsSet config.kept config.limits

-- Whoever chooses the settings of channels chooses those that the kept settings give.
abbrev pub IsChooser : Chooser → Type 0
IsChooser choose =
    (config : Config) → IsConfig config → (meta : ChannelMeta) (settings : Settings) → AreSettings config.props meta settings
    → AreSame settings (choose config.kept meta)
