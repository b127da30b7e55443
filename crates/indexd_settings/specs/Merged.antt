-- The five files of settings as they were read and merged.
use Rattle.std.specs.Prelude.{◌++◌, List, Option, Ok}
use Rattle.std.specs.List.{AllByRecursion}
use Rattle.ix_fs.specs.declared.trees.TreeFile.{TreeFile}
use Rattle.ix_conf.specs.Value.{AreMerged}
use Rattle.ix_conf.specs.declared.layers.Layer.{Layer}
use Rattle.ix_conf.specs.declared.layers.MergedEntry.{MergedEntry}
use Rattle.indexd_settings.specs.Layers.{of_files, built_in, IsOfText, ReadAs}
use Rattle.indexd_settings.specs.declared.layers.SettingsFile.{SettingsFile}
use Rattle.indexd_settings.specs.declared.layers.SettingsFile.TheVariants.{Props, Transforms, Indexes, Inputs, Zones}
use Rattle.indexd_settings.specs.declared.merged.MergedFiles.{MergedFiles}

-- no layer of the file has a fault, and this is what they and what is known without any file are
-- merged to
pub record IsMergedOf (files : Option (List TreeFile)) (file : SettingsFile) (entries : List MergedEntry) : Type 0 where
  pub layers : List Layer
  pub read : ReadAs files (λ all. of_files all file) (Ok layers)
  pub texts : AllByRecursion IsOfText layers
  pub merged : AreMerged (layers ++ built_in file) entries

-- so are all five, and the layers of zones.conf without the built-in one
pub record AreMergedFiles (files : Option (List TreeFile)) (found : MergedFiles) : Type 0 where
  pub props : IsMergedOf files Props found.props
  pub transforms : IsMergedOf files Transforms found.transforms
  pub indexes : IsMergedOf files Indexes found.indexes
  pub inputs : IsMergedOf files Inputs found.inputs
  pub zones : IsMergedOf files Zones found.zones
  pub own_zones : AreMerged zones.layers found.own_zones

-- the zones alone
pub record AreZonesOf (files : Option (List TreeFile)) (own zones : List MergedEntry) : Type 0 where
  pub all : IsMergedOf files Zones zones
  pub alone : AreMerged all.layers own
