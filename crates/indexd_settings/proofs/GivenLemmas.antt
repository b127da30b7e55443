-- The settings that files give are such that a store takes them.
use Rattle.std.proofs.Common.{◌≡◌, List, [], ◌∷◌, ◌++◌, Option, refl, sym, subst}
use Rattle.std.specs.List.{AllByRecursion}
use Rattle.std.proofs.lemmas.List.{append-nil}
use Rattle.ix_fs.specs.declared.trees.TreeFile.{TreeFile}
use Rattle.ix_conf.specs.Value.{AreMerged}
use Rattle.ix_conf.specs.declared.layers.Layer.{Layer}
use Rattle.ix_conf.specs.declared.layers.MergedEntry.{MergedEntry}
use Rattle.ix_items.specs.declared.items.Kept.{Kept}
use Rattle.ix_model.specs.declared.commands.Config.{Config}
use Rattle.ix_state.specs.Configs.{IsConfig}
use Rattle.ix_state.specs.Keeping.{HasNames, AreLayersOf, AreFilesRead, KeptIsConfig, ReadNamesAreShort}
use Rattle.indexd_settings.specs.Layers.{IsOfText, built_in}
use Rattle.indexd_settings.specs.Merged.{IsMergedOf, AreMergedFiles}
use Rattle.indexd_settings.specs.declared.layers.SettingsFile.{SettingsFile}
use Rattle.indexd_settings.specs.declared.layers.SettingsFile.TheVariants.{Props, Transforms, Indexes}
use Rattle.indexd_settings.specs.declared.merged.MergedFiles.{MergedFiles}
use Rattle.indexd_settings.specs.Given.{IsGivenBy}

-- layers of texts have names within the limit
short_names : ReadNamesAreShort → (layers : List Layer) → AllByRecursion IsOfText layers → AllByRecursion HasNames layers
short_names short [] texts = tt
short_names short (layer ∷ layers) texts = (short layer.name texts.0.0 layer.file texts.0.1, short_names short layers texts.1)

-- where nothing is built in, the layers of the files are all
layers_of : ReadNamesAreShort → (files : Option (List TreeFile)) (file : SettingsFile) (entries : List MergedEntry) → built_in file ≡ [] →
    (merged : IsMergedOf files file entries) → AreLayersOf merged.layers entries
layers_of short files file entries none merged = record {
  names = short_names short merged.layers merged.texts;
  merged = subst (λ (l : List Layer). AreMerged l entries) (append-nil merged.layers)
      (subst (λ (l : List Layer). AreMerged (merged.layers ++ l) entries) none merged.merged);
}

-- the files that were read are such as what is kept is made of
files_read : ReadNamesAreShort → (files : Option (List TreeFile)) (found : MergedFiles) → AreMergedFiles files found →
    AreFilesRead found.props found.transforms found.indexes found.own_zones found.zones
files_read short files found are = record {
  props_layers = are.props.layers;
  props_are = layers_of short files Props found.props refl are.props;
  transforms_layers = are.transforms.layers;
  transforms_are = layers_of short files Transforms found.transforms refl are.transforms;
  indexes_layers = are.indexes.layers;
  indexes_are = layers_of short files Indexes found.indexes refl are.indexes;
  zones_layers = are.zones.layers;
  own_are = record { names = short_names short are.zones.layers are.zones.texts; merged = are.own_zones };
  zones_are = are.zones.merged;
}

-- and those that are given by them are such as a store takes
pub is_config : KeptIsConfig → ReadNamesAreShort → (files : Option (List TreeFile)) (found : MergedFiles) (config : Config) →
    AreMergedFiles files found → IsGivenBy found config → IsConfig config
is_config law short files found config are given =
    subst (λ (kept : List Kept). IsConfig (record { props = config.props; limits = config.limits; kept = kept })) (sym given.kept)
    (law found.props found.transforms found.indexes found.own_zones found.zones (files_read short files found are)
    config.props given.values.props config.limits given.values.sound given.values.limits)
