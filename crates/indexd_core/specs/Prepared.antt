-- What a preview is prepared with, and why there is no preview.
use Rattle.std.specs.Prelude.{◌≡◌, ℕ, List, ◌++◌, codes, Option, Some, None, IfSome, IsSome}
use Rattle.ix_base.specs.Faults.{Rose}
use Rattle.ix_base.specs.declared.events.ChannelMeta.{ChannelMeta}
use Rattle.ix_fs.specs.declared.trees.TreeFile.{TreeFile}
use Rattle.ix_props.specs.Settings.{AreSettings}
use Rattle.ix_life.specs.Limits.{limits_of}
use Rattle.ix_life.specs.declared.sets.LimitSet.{LimitSet}
use Rattle.indexd_settings.specs.Configuration.{IsConfiguration}
use Rattle.indexd_settings.specs.Faults.{HasFault}
use Rattle.indexd_settings.specs.Texts.{fault_line}
use Rattle.indexd_settings.specs.declared.configuration.Configuration.{Configuration}
use Rattle.indexd_settings.specs.declared.faults.ConfigurationFault.{ConfigurationFault}
use Rattle.indexd_core.specs.declared.prepare.PreparedPreview.{PreparedPreview}
use Rattle.indexd_core.specs.declared.prepare.PrepareStop.{PrepareStop}
use Rattle.indexd_core.specs.declared.prepare.PrepareStop.TheVariants.{Memory, Input, Refused, NotFound}

-- what the words of a preview state
pub record Stated : Type 0 where
  pub host : List ℕ
  pub source : List ℕ
  pub sourcetype : Option (List ℕ)
  pub index : Option (List ℕ)

-- the stated index, or the default one
abbrev pub index_or_default : Option (List ℕ) → LimitSet → List ℕ
index_or_default None limits = limits.default_database
index_or_default (Some index) limits = index

-- what is known of previewed bytes
abbrev pub preview_meta : Stated → LimitSet → ChannelMeta
preview_meta stated limits = record {
  host = stated.host;
  source = stated.source;
  sourcetype = stated.sourcetype;
  index = Some (index_or_default stated.index limits);
}

-- The files of the tree have no fault, a stated index is configured, and these are the settings
-- that they have for the host, the source and the source type.
pub record IsPrepared (stated : Stated) (files : Option (List TreeFile)) (prepared : PreparedPreview) : Type 0 where
  pub configuration : Configuration
  pub files_are : IsConfiguration files configuration
  pub limits_are : prepared.limits ≡ configuration.limits
  pub index_is : IfSome stated.index (λ index. IsSome (limits_of configuration.limits index))
  pub meta_is : prepared.meta ≡ preview_meta stated configuration.limits
  pub settings_are : AreSettings configuration.props prepared.meta prepared.settings

-- the stated index is not configured
pub record IsNotFound (stated : Stated) (files : Option (List TreeFile)) (index : List ℕ) : Type 0 where
  pub configuration : Configuration
  pub files_are : IsConfiguration files configuration
  pub named : stated.index ≡ Some index
  pub missing : limits_of configuration.limits index ≡ None

-- the line that tells of it
abbrev pub not_found_line : List ℕ → List ℕ
not_found_line index = codes "indexd: not found: " ++ index ++ codes "\n"

-- Why a preview is not prepared: want of memory, a tree that failed, the first fault of the files,
-- or an index that is not configured. The two numbers are how often the tree had failed before and
-- after.
abbrev pub Unprepared : PrepareStop → Stated → ℕ → ℕ → Option (List TreeFile) → Type 0
Unprepared Memory stated failed failed' files = Unit {0}
Unprepared Input stated failed failed' files = Rose failed failed'
Unprepared (Refused fault) stated failed failed' files = HasFault files fault
Unprepared (NotFound index) stated failed failed' files = IsNotFound stated files index
