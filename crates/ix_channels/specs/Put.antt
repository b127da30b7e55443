-- What events come to that come already cut.
use Rattle.std.specs.Prelude.{◌≡◌, ℤ, List}
use Rattle.std.specs.List.{AllZip}
use Rattle.ix_base.specs.declared.events.Routed.{Routed}
use Rattle.ix_life.specs.declared.sets.LimitSet.{LimitSet}
use Rattle.ix_model.specs.Step.{direct_event, direct_by}
use Rattle.ix_model.specs.declared.commands.Direct.{Direct}
use Rattle.ix_props.specs.Settings.{AreSettings}
use Rattle.ix_props.specs.declared.props.PropsEntry.{PropsEntry}
use Rattle.ix_props.specs.declared.settings.Settings.{Settings}
use Rattle.ix_transforms.specs.Sizes.{HasSizes}
use Rattle.ix_channels.specs.Begun.{resolved}

-- by the settings that are chosen for its metadata
pub record IsPut (set : LimitSet) (entries : List PropsEntry) (moment : ℤ) (direct : Direct) (routed : Routed) : Type 0 where
  pub settings : Settings
  pub chosen : AreSettings entries (resolved set direct.meta) settings
  pub routed_is : routed ≡ direct_by settings (resolved set direct.meta) moment direct
  pub sizes : HasSizes (direct_event settings (resolved set direct.meta) moment direct) routed

abbrev pub ArePut : LimitSet → List PropsEntry → ℤ → List Direct → List Routed → Type 0
ArePut set entries moment events outcomes = AllZip (IsPut set entries moment) events outcomes
