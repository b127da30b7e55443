-- What the settings of a run are read as.
use Rattle.std.specs.Prelude.{◌≡◌, List, Option, None}
use Rattle.ix_fs.specs.declared.trees.TreeFile.{TreeFile}
use Rattle.ix_props.specs.Props.{AreRead}
use Rattle.ix_life.specs.Limits.{AreLimits, first_fault}
use Rattle.indexd_settings.specs.Merged.{AreMergedFiles}
use Rattle.indexd_settings.specs.declared.merged.MergedFiles.{MergedFiles}
use Rattle.indexd_settings.specs.declared.configuration.Configuration.{Configuration}

-- the values of the merged files
pub record IsReadOf (found : MergedFiles) (configuration : Configuration) : Type 0 where
  pub props : AreRead found.transforms found.zones found.props configuration.props
  pub sound : first_fault found.indexes ≡ None
  pub limits : AreLimits found.indexes configuration.limits

-- the settings that the files of a tree give
pub record IsConfiguration (files : Option (List TreeFile)) (configuration : Configuration) : Type 0 where
  pub found : MergedFiles
  pub merged : AreMergedFiles files found
  pub values : IsReadOf found configuration
