-- Lines on their way to outcomes.
use Rattle.std.specs.Prelude.{◌≡◌, false, List, ◌++◌, None}
use Rattle.ix_base.specs.Stream.{Dated}
use Rattle.ix_base.specs.declared.events.ChannelMeta.{ChannelMeta}
use Rattle.ix_base.specs.declared.events.Line.{Line}
use Rattle.ix_merge.specs.Events.{settled, all_events}
use Rattle.ix_merge.specs.Stands.{Merging, Holds}
use Rattle.ix_merge.specs.Starts.{MarkedLine}
use Rattle.ix_merge.specs.declared.events.Whole.{Whole}
use Rattle.ix_parse.specs.Marks.{marked}
use Rattle.ix_parse.specs.Settled.{channel_lines, events_of, outcomes, latest_of}
use Rattle.ix_parse.specs.declared.outcomes.Outcomes.{Outcomes}
use Rattle.ix_props.specs.declared.settings.Settings.{Settings}

-- the outcomes of some events more
abbrev pub with_events : Settings → ChannelMeta → Outcomes → List Whole → Outcomes
with_events s meta o events = record {
  latest = latest_of s.time o.latest events;
  routed = o.routed ++ outcomes s meta o.latest events;
}

-- lines were taken in behind others: these events are settled by them, and their outcomes were
-- added
pub record Takes (s : Settings) (meta : ChannelMeta) (earlier : List MarkedLine) (lines : List Line) (old new : Merging)
    (before behind : Outcomes) : Type 0 where
  pub added : List Whole
  pub holds : Holds (earlier ++ marked s.merge s.time lines) new
  pub settles : settled old.on old.max_lines (earlier ++ marked s.merge s.time lines) ≡ settled old.on old.max_lines earlier ++ added
  pub outcomes_are : behind ≡ with_events s meta before added

-- the lines ended: these events were left, and their outcomes were added
pub record TakesEnd (s : Settings) (meta : ChannelMeta) (lines : List MarkedLine) (merge : Merging) (before behind : Outcomes) : Type 0
  where
    pub added : List Whole
    pub settles : all_events merge.on merge.max_lines lines ≡ settled merge.on merge.max_lines lines ++ added
    pub outcomes_are : behind ≡ with_events s meta before added

-- lines were taken in behind those of a stream: these events are settled by them, and this is what
-- they come to
pub record TakenIn (s : Settings) (meta : ChannelMeta) (stream : List Dated) (lines : List Line) (merge : Merging)
    (behind : Outcomes) : Type 0 where
  pub merges : merge.on ≡ s.merge.on
  pub most_lines : merge.max_lines ≡ s.merge.max_lines
  pub holds : Holds (marked s.merge s.time (channel_lines s stream false) ++ marked s.merge s.time lines) merge
  pub added : List Whole
  pub settles : settled s.merge.on s.merge.max_lines (marked s.merge s.time (channel_lines s stream false) ++ marked s.merge s.time lines)
      ≡ events_of s stream false ++ added
  pub latest_is : behind.latest ≡ latest_of s.time (latest_of s.time None (events_of s stream false)) added
  pub routed_is : behind.routed ≡ outcomes s meta (latest_of s.time None (events_of s stream false)) added
