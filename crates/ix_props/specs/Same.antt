-- Settings that mean the same.
use Rattle.std.specs.Prelude.{◌≡◌, List, Option, Some, None}
use Rattle.std.specs.List.{AllZip}
use Rattle.ix_base.specs.declared.events.ChannelMeta.{ChannelMeta}
use Rattle.ix_pattern.specs.Piece.{IsSound}
use Rattle.ix_pattern.specs.Rows.{Shape, tree}
use Rattle.ix_conf.specs.declared.layers.MergedEntry.{MergedEntry}
use Rattle.ix_props.specs.Props.{AreRead}
use Rattle.ix_props.specs.Settings.{AreSettings, AreUsable}
use Rattle.ix_props.specs.declared.props.PropsEntry.{PropsEntry}
use Rattle.ix_props.specs.declared.settings.MergeSettings.{MergeSettings}
use Rattle.ix_props.specs.declared.settings.Settings.{Settings}
use Rattle.ix_props.specs.declared.settings.TimeSettings.{TimeSettings}
use Rattle.ix_props.specs.declared.values.Value.{Value}
use Rattle.ix_props.specs.declared.values.Value.TheVariants as value
use Rattle.ix_conf_values.specs.declared.seds.Sed.{Sed}
use Rattle.ix_conf_values.specs.declared.seds.Sed.TheVariants.{Replace, Swap}
use Rattle.ix_conf_values.specs.declared.transforms.Transform.{Transform}

-- patterns mean the same, however their nodes are numbered
pub record MeanSame (p q : Shape) : Type 0 where
  pub trees : tree p.rows ≡ tree q.rows
  pub groups : p.groups ≡ q.groups
  pub weights : p.weight ≡ q.weight

-- so do patterns that may be missing: both are there or none is
abbrev pub BothMeanSame : Option Shape → Option Shape → Type 0
BothMeanSame None None = Unit {0}
BothMeanSame None (Some q) = ⊥
BothMeanSame (Some p) None = ⊥
BothMeanSame (Some p) (Some q) = MeanSame p q

-- ---- settings: their patterns mean the same, and all else is equal

pub record AreSameMerge (a b : MergeSettings) : Type 0 where
  pub before : BothMeanSame a.before b.before
  pub break_after : BothMeanSame a.break_after b.break_after
  pub hold_after : BothMeanSame a.hold_after b.hold_after
  pub veto : BothMeanSame a.veto b.veto
  pub others : a ≡ record b { before = a.before; break_after = a.break_after; hold_after = a.hold_after; veto = a.veto }

pub record AreSameTime (a b : TimeSettings) : Type 0 where
  pub prefix : BothMeanSame a.prefix b.prefix
  pub others : a ≡ record b { prefix = a.prefix }

abbrev pub IsSameSed : Sed → Sed → Type 0
IsSameSed (Replace p parts which) (Replace q parts' which') = MeanSame p q × (parts ≡ parts') × (which ≡ which')
IsSameSed (Replace p parts which) (Swap from to) = ⊥
IsSameSed (Swap from to) (Replace q parts which) = ⊥
IsSameSed (Swap from to) (Swap from' to') = (from ≡ from') × (to ≡ to')

pub record IsSameTransform (a b : Transform) : Type 0 where
  pub regex : MeanSame a.regex b.regex
  pub others : a ≡ record b { regex = a.regex }

pub record AreSame (a b : Settings) : Type 0 where
  pub breaker : MeanSame a.breaker b.breaker
  pub merge : AreSameMerge a.merge b.merge
  pub time : AreSameTime a.time b.time
  pub seds : AllZip IsSameSed a.seds b.seds
  pub transforms : AllZip IsSameTransform a.transforms b.transforms
  pub others : a ≡ record b { breaker = a.breaker; merge = a.merge; time = a.time; seds = a.seds; transforms = a.transforms }

-- ---- entries of props.conf: the patterns in their values mean the same, and all else is equal

abbrev pub IsSamePattern : Shape → Value → Type 0
IsSamePattern p (value.Pattern q) = MeanSame p q
IsSamePattern p other = ⊥

abbrev pub IsSameChange : Sed → Value → Type 0
IsSameChange sed (value.Change other) = IsSameSed sed other
IsSameChange sed other = ⊥

abbrev pub AreSameTransforms : List Transform → Value → Type 0
AreSameTransforms ts (value.Transforms others) = AllZip IsSameTransform ts others
AreSameTransforms ts other = ⊥

abbrev pub IsSameValue : Value → Value → Type 0
IsSameValue (value.Pattern p) w = IsSamePattern p w
IsSameValue (value.Change sed) w = IsSameChange sed w
IsSameValue (value.Transforms ts) w = AreSameTransforms ts w
IsSameValue other w = other ≡ w

pub record IsSameEntry (a b : PropsEntry) : Type 0 where
  pub stanza : a.stanza ≡ b.stanza
  pub key : a.key ≡ b.key
  pub value : IsSameValue a.value b.value

-- ---- laws

-- the settings of a channel are one: entries that mean the same give settings that mean the same
abbrev pub SettingsAreOne : Type 0
SettingsAreOne =
    (entries others : List PropsEntry) (meta : ChannelMeta) (a b : Settings) → AllZip IsSameEntry entries others →
    AreSettings entries meta a → AreSettings others meta b → AreSame a b

-- entries that mean the same as all that is ever read of the merged files, if anything is
pub record IsReading (transforms zones props : List MergedEntry) : Type 0 where
  pub entries : List PropsEntry
  pub one : (others : List PropsEntry) → AreRead transforms zones props others → AllZip IsSameEntry others entries

-- what is read of files is one
abbrev pub ReadingsAreOne : Type 0
ReadingsAreOne = (transforms zones props : List MergedEntry) → IsReading transforms zones props

-- settings that a channel can be cut by: they can be used, and the pattern for breaks is sound
pub record CanCut (s : Settings) : Type 0 where
  pub usable : AreUsable s
  pub sound : IsSound (tree s.breaker.rows)

-- so can all settings be that mean the same
pub record CanAlwaysCut (s : Settings) : Type 0 where
  pub itself : CanCut s
  pub others : (other : Settings) → AreSame s other → CanCut other

-- the settings that read entries give can be used
abbrev pub SettingsAreUsable : Type 0
SettingsAreUsable =
    (transforms zones props : List MergedEntry) (entries : List PropsEntry) (meta : ChannelMeta) (s : Settings) →
    AreRead transforms zones props entries → AreSettings entries meta s → CanAlwaysCut s
