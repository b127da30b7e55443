-- Whose patterns the finders are that a block is treated with. A finder is seen as its pattern.
use Rattle.std.specs.Prelude.{◌≡◌, Bool, true, false, Option, None}
use Rattle.ix_pattern.specs.Rows.{Shape}
use Rattle.ix_props.specs.declared.settings.MergeSettings.{MergeSettings}
use Rattle.ix_props.specs.declared.settings.Settings.{Settings}
use Rattle.ix_parse.specs.declared.marks.LineMarker.TheInside.{Inside}
use Rattle.ix_parse.specs.declared.stages.EventStage.{EventStage}
use Rattle.ix_parse.specs.declared.stages.LineStage.{LineStage}

-- where lines are not merged no pattern is sought
abbrev pub sought : Bool → Option Shape → Option Shape
sought true pattern = pattern
sought false pattern = None

pub record AreFindersOf (merge : MergeSettings) (m : Inside) : Type 0 where
  pub before : m.before ≡ sought merge.on merge.before
  pub break_after : m.break_after ≡ sought merge.on merge.break_after
  pub hold_after : m.hold_after ≡ sought merge.on merge.hold_after
  pub veto : m.veto ≡ sought merge.on merge.veto

-- what dates and changes events by these settings
pub record IsEventStageOf (s : Settings) (stage : EventStage) : Type 0 where
  pub times : stage.times ≡ s.time
  pub seds : stage.changer.seds ≡ s.seds
  pub transforms : stage.changer.transforms ≡ s.transforms

-- what marks lines, and dates and changes their events, by these settings
pub record IsLineStageOf (s : Settings) (stage : LineStage) : Type 0 where
  pub marker : stage.marker ≡ s.merge
  pub events : IsEventStageOf s stage.events
