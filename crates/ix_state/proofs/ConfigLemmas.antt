-- The values that were read of what is kept are those that it gives.
use Rattle.std.proofs.Common.{◌≡◌, List, [], ◌∷◌, map, None, refl, sym, ◌∙◌, subst}
use Rattle.ix_conf.specs.Value.{AreMerged}
use Rattle.ix_conf.specs.declared.layers.MergedEntry.{MergedEntry}
use Rattle.ix_items.specs.declared.items.Kept.{Kept}
use Rattle.ix_life.specs.Limits.{AreLimits, first_fault}
use Rattle.ix_life.specs.declared.sets.LimitSet.{LimitSet}
use Rattle.ix_model.specs.Given.{entry}
use Rattle.ix_model.specs.declared.commands.Config.{Config}
use Rattle.ix_props.specs.Props.{AreRead}
use Rattle.ix_props.specs.declared.props.PropsEntry.{PropsEntry}
use Rattle.ix_state.specs.Configs.{kept_in, layer_in, built_in, IsConfig}
use Rattle.ix_state.specs.Files.{AreOrdered, AreFiles}
use Rattle.ix_state.specs.declared.files.Files.{Files}
use Rattle.ix_state.proofs.OneMerge.{one_merge}

-- where what was read is refused, nothing that is kept so has values
pub props_of : (config : Config) (files : Files) → IsConfig config → AreFiles config.kept files →
    AreRead files.transforms files.zones files.props config.props
props_of config files is are =
    let p = config.kept in
    let props = is.props.props in
    let transforms = is.props.transforms in
    let zones = is.props.zones in
    let props_same : props ≡ files.props =
    one_merge (layer_in 1 p ∷ []) props (map entry (kept_in 1 p)) is.props.props_are is.order.props ∙ sym are.props in
    let transforms_same : transforms ≡ files.transforms =
    one_merge (layer_in 2 p ∷ []) transforms (map entry (kept_in 2 p)) is.props.transforms_are is.order.transforms ∙ sym are.transforms in
    let zones_same : zones ≡ files.zones = one_merge (layer_in 4 p ∷ built_in ∷ []) zones files.zones is.props.zones_are are.zones in
    subst (λ (m : List MergedEntry). AreRead m files.zones files.props config.props) transforms_same
    (subst (λ (m : List MergedEntry). AreRead transforms m files.props config.props) zones_same
    (subst (λ (m : List MergedEntry). AreRead transforms zones m config.props) props_same is.props.read))

-- no settings of channels are read as none
pub no_props : (files : Files) → files.props ≡ [] → AreRead files.transforms files.zones files.props []
no_props files none = subst (λ (m : List MergedEntry). AreRead files.transforms files.zones m []) (sym none) tt

pub config_made : (kept : List Kept) (files : Files) (loaded : List PropsEntry) (set : LimitSet) → AreOrdered kept → AreFiles kept files
    → AreRead files.transforms files.zones files.props loaded → first_fault files.indexes ≡ None → AreLimits files.indexes set
    → IsConfig (record { props = loaded; limits = set; kept = kept })
config_made kept files loaded set ordered are read sound limits = record {
  order = ordered.order;
  stanzas = ordered.names;
  props = record {
    props = files.props;
    transforms = files.transforms;
    zones = files.zones;
    props_are = subst (λ (m : List MergedEntry). AreMerged (layer_in 1 kept ∷ []) m) (sym are.props) ordered.order.props;
    transforms_are = subst (λ (m : List MergedEntry). AreMerged (layer_in 2 kept ∷ []) m) (sym are.transforms) ordered.order.transforms;
    zones_are = are.zones;
    read = read;
  };
  limits = record {
    sound = subst (λ (m : List MergedEntry). first_fault m ≡ None) are.indexes sound;
    limits = subst (λ (m : List MergedEntry). AreLimits m set) are.indexes limits;
  };
}

-- no settings at all stand in order
pub none_ordered : AreOrdered []
none_ordered = record {
  order = record {
    files = tt;
    props = record { ascending = tt; entry = λ stanza key. refl };
    transforms = record { ascending = tt; entry = λ stanza key. refl };
    indexes = record { ascending = tt; entry = λ stanza key. refl };
    zones = record { ascending = tt; entry = λ stanza key. refl };
  };
  names = tt;
}
