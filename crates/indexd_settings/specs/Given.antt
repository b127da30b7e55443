-- The settings that a store is to go by, as the files of a tree give them.
use Rattle.std.specs.Prelude.{◌≡◌, ℤ, List, Option}
use Rattle.ix_fs.specs.declared.trees.TreeFile.{TreeFile}
use Rattle.ix_state.specs.Keeping.{all_kept}
use Rattle.ix_state.specs.Taken.{IsTaken}
use Rattle.ix_model.specs.declared.commands.Command.TheVariants.{Configure}
use Rattle.ix_model.specs.declared.commands.Config.{Config}
use Rattle.indexd_settings.specs.Configuration.{IsReadOf}
use Rattle.indexd_settings.specs.Merged.{AreMergedFiles}
use Rattle.indexd_settings.specs.declared.merged.MergedFiles.{MergedFiles}

-- The values are those of the merged files. All their entries are kept, but those of the zones that
-- are built in.
pub record IsGivenBy (found : MergedFiles) (config : Config) : Type 0 where
  pub values : IsReadOf found (record { props = config.props; limits = config.limits })
  pub kept : config.kept ≡ all_kept found.props found.transforms found.indexes found.own_zones

-- the settings that the files of a tree give
pub record IsConfigOf (files : Option (List TreeFile)) (config : Config) : Type 0 where
  pub found : MergedFiles
  pub merged : AreMergedFiles files found
  pub given : IsGivenBy found config

-- A change to such settings is a command that a store takes, at any moment.
abbrev pub ConfigsAreTaken : Type 0
ConfigsAreTaken =
    (files : Option (List TreeFile)) (config : Config) (moment : ℤ) → IsConfigOf files config →
    IsTaken (record { command = Configure config; moment = moment })
