-- A chooser, for the law `choosers_exist`: it settles a channel by one reading of the kept
-- settings, which means the same as every other. And what choosers choose of the settings in force
-- can be used, for the law `chosen_lives_join`.
use Rattle.std.proofs.Common.{◌≡◌, List, [], ◌∷◌, map, subst}
use Rattle.std.specs.List.{AllZip}
use Rattle.ix_base.specs.declared.events.ChannelMeta.{ChannelMeta}
use Rattle.ix_conf.specs.declared.layers.MergedEntry.{MergedEntry}
use Rattle.ix_items.specs.declared.items.Kept.{Kept}
use Rattle.ix_state.specs.Choosers.{ChoosersExist}
use Rattle.ix_state.specs.Configs.{kept_in, layer_in, built_in, IsConfig, IsChooser}
use Rattle.ix_state.proofs.Chosen.{settings_exist}
use Rattle.ix_state.proofs.Loaded.{AreLoaded}
use Rattle.ix_state.proofs.Merged.{merged_exist}
use Rattle.ix_state.proofs.OneMerge.{one_merge}
use Rattle.ix_model.specs.Given.{Chooser, entry}
use Rattle.ix_model.specs.declared.commands.Config.{Config}
use Rattle.ix_props.specs.Props.{AreRead}
use Rattle.ix_props.specs.Same.{IsSameEntry, IsReading, CanCut, SettingsAreOne, ReadingsAreOne, SettingsAreUsable}
use Rattle.ix_props.specs.declared.props.PropsEntry.{PropsEntry}

-- ---- one reading for all that may be kept

-- the time zones that are kept, with the built-in ones behind them
zones_in : List Kept → List MergedEntry
zones_in force = (merged_exist (layer_in 4 force ∷ built_in ∷ [])).0

module _ (readings : ReadingsAreOne) where
  reading_in : (force : List Kept) → IsReading (map entry (kept_in 2 force)) (zones_in force) (map entry (kept_in 1 force))
  reading_in force = readings (map entry (kept_in 2 force)) (zones_in force) (map entry (kept_in 1 force))

  -- what is read of them means the same
  of_config : (config : Config) → IsConfig config → AllZip IsSameEntry config.props (reading_in config.kept).entries
  unfolding zones_in
  of_config config is =
      let f = config.kept in
      let p = is.props in
      let props : p.props ≡ map entry (kept_in 1 f) = one_merge (layer_in 1 f
      ∷ []) p.props (map entry (kept_in 1 f)) p.props_are is.order.props in
      let transforms : p.transforms ≡ map entry (kept_in 2 f) =
      one_merge (layer_in 2 f ∷ []) p.transforms (map entry (kept_in 2 f)) p.transforms_are is.order.transforms in
      let zones : p.zones ≡ zones_in f =
      one_merge (layer_in 4 f ∷ built_in ∷ []) p.zones (zones_in f) p.zones_are (merged_exist (layer_in 4 f ∷ built_in ∷ [])).1 in
      (reading_in f).one config.props
      (subst (λ (es : List MergedEntry). AreRead (map entry (kept_in 2 f)) (zones_in f) es config.props) props
      (subst (λ (zs : List MergedEntry). AreRead (map entry (kept_in 2 f)) zs p.props config.props) zones
      (subst (λ (ts : List MergedEntry). AreRead ts p.zones p.props config.props) transforms p.read)))

  -- ---- the settings that it gives

  chosen_in : Chooser
  chosen_in force meta = (settings_exist (reading_in force).entries meta).0

  is_chooser : SettingsAreOne → IsChooser chosen_in
  unfolding chosen_in
  is_chooser one config is meta settings chosen =
      let found = settings_exist (reading_in config.kept).entries meta in
      one config.props (reading_in config.kept).entries meta settings found.0 (of_config config is) chosen found.1

pub choosers_exist : ReadingsAreOne → SettingsAreOne → ChoosersExist
choosers_exist readings one = (chosen_in readings, is_chooser readings one)

-- ---- what any chooser chooses

pub can_cut : SettingsAreUsable → (choose : Chooser) (force : List Kept) (meta : ChannelMeta) → IsChooser choose → AreLoaded force →
    CanCut (choose force meta)
can_cut usable choose force meta chooser h =
    let found = settings_exist h.config.props meta in
    let p = h.is.props in
    subst (λ (l : List Kept). CanCut (choose l meta)) h.same
    ((usable p.transforms p.zones p.props h.config.props meta found.0 p.read found.1).others (choose h.config.kept meta)
    (chooser h.config h.is meta found.0 found.1))
