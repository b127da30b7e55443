-- What is kept, file by file, as it is read.
use Rattle.std.specs.Prelude.{◌≡◌, ◌==◌, ◌≤◌, ℕ, if◌then◌else◌, List, [], ◌∷◌, length, map}
use Rattle.std.specs.List.{AllByRecursion}
use Rattle.ix_conf.specs.Value.{AreMerged}
use Rattle.ix_conf.specs.declared.layers.Layer.{Layer}
use Rattle.ix_items.specs.declared.items.Kept.{Kept}
use Rattle.ix_model.specs.Given.{entry}
use Rattle.ix_state.specs.Configs.{kept_in, said, layer_in, built_in, AreByFile, AreInOrder}
use Rattle.ix_state.specs.declared.files.Files.{Files}

-- a setting, where it is of this file
abbrev pub kept_at : ℕ → Kept → List Kept
kept_at file kept = if kept.file == file then kept ∷ [] else []

-- the layer that settings are
abbrev pub layer_of : List Kept → Layer
layer_of kept = record { name = []; file = map said kept }

abbrev pub HaveNames : List Kept → Type 0
HaveNames force = AllByRecursion (λ (kept : Kept). length kept.stanza ≤ 1024) force

pub record StandWell (force : List Kept) : Type 0 where
  pub files : AreByFile 1 force
  pub names : HaveNames force

pub record AreOrdered (force : List Kept) : Type 0 where
  pub order : AreInOrder force
  pub names : HaveNames force

-- the four files that were read of what is kept
pub record AreFiles (force : List Kept) (files : Files) : Type 0 where
  pub props : files.props ≡ map entry (kept_in 1 force)
  pub transforms : files.transforms ≡ map entry (kept_in 2 force)
  pub indexes : files.indexes ≡ map entry (kept_in 3 force)
  pub zones : AreMerged (layer_in 4 force ∷ built_in ∷ []) files.zones
