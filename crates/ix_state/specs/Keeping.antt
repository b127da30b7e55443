-- What is kept of the files of settings.
use Rattle.std.specs.Prelude.{◌≡◌, ◌≤◌, ℕ, List, [], ◌∷◌, ◌++◌, None, Ok, length, map}
use Rattle.std.specs.List.{AllByRecursion}
use Rattle.ix_conf.specs.Grammar.{pairs}
use Rattle.ix_conf.specs.Value.{AreMerged}
use Rattle.ix_conf.specs.declared.entries.Entry.{Entry}
use Rattle.ix_conf.specs.declared.entries.Entry.TheVariants.{Stanza, Pair}
use Rattle.ix_conf.specs.declared.layers.Layer.{Layer}
use Rattle.ix_conf.specs.declared.layers.MergedEntry.{MergedEntry}
use Rattle.ix_items.specs.declared.items.Kept.{Kept}
use Rattle.ix_life.specs.Limits.{AreLimits, first_fault}
use Rattle.ix_life.specs.declared.sets.LimitSet.{LimitSet}
use Rattle.ix_props.specs.Props.{AreRead}
use Rattle.ix_props.specs.declared.props.PropsEntry.{PropsEntry}
use Rattle.ix_state.specs.Configs.{built_in, IsConfig}

-- an entry of a file, without the name of its layer
abbrev pub kept_as : ℕ → MergedEntry → Kept
kept_as file e = record { file = file; stanza = e.stanza; key = e.key; value = e.value }

-- all of the four files, one file behind the other
abbrev pub all_kept : List MergedEntry → List MergedEntry → List MergedEntry → List MergedEntry → List Kept
all_kept props transforms indexes zones =
    map (kept_as 1) props ++ (map (kept_as 2) transforms ++ (map (kept_as 3) indexes ++ map (kept_as 4) zones))

-- ---- files that were read

abbrev pub stanza_of : Entry → List ℕ
stanza_of (Stanza name) = name
stanza_of (Pair name key value) = name

-- the names of stanzas are within the limit of the grammar
abbrev pub HasNames : Layer → Type 0
HasNames layer = AllByRecursion (λ (entry : Entry). length (stanza_of entry) ≤ 1024) layer.file

-- layers of a file, and what they are merged to
pub record AreLayersOf (layers : List Layer) (entries : List MergedEntry) : Type 0 where
  pub names : AllByRecursion HasNames layers
  pub merged : AreMerged layers entries

-- the merged files, and zones with the built-in ones behind those of the files
pub record AreFilesRead (props transforms indexes own zones : List MergedEntry) : Type 0 where
  pub props_layers : List Layer
  pub props_are : AreLayersOf props_layers props
  pub transforms_layers : List Layer
  pub transforms_are : AreLayersOf transforms_layers transforms
  pub indexes_layers : List Layer
  pub indexes_are : AreLayersOf indexes_layers indexes
  pub zones_layers : List Layer
  pub own_are : AreLayersOf zones_layers own
  pub zones_are : AreMerged (zones_layers ++ built_in ∷ []) zones

-- What is kept of files gives the values that were read of them.
abbrev pub KeptIsConfig : Type 0
KeptIsConfig =
    (props transforms indexes own zones : List MergedEntry) → AreFilesRead props transforms indexes own zones
    → (loaded : List PropsEntry) → AreRead transforms zones props loaded → (set : LimitSet) → first_fault indexes ≡ None →
    AreLimits indexes set
    → IsConfig (record { props = loaded; limits = set; kept = all_kept props transforms indexes own })

-- A layer that was read of a text has such names.
abbrev pub ReadNamesAreShort : Type 0
ReadNamesAreShort = (name text : List ℕ) (file : List Entry) → pairs text ≡ Ok file → HasNames (record { name = name; file = file })
