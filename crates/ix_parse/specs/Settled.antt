-- What the bytes of a channel come to: its lines, the events that these make, the times of the
-- events, and what is changed in them. Nothing here knows blocks: a stream is a list of bytes, each
-- with its moment.
use Rattle.std.specs.Prelude.{◌≡◌, ℕ, ℤ, Bool, true, false, List, [], ◌∷◌, ◌++◌, fold, Option, Some, None, unwrap_or}
use Rattle.ix_base.specs.Stream.{Dated}
use Rattle.ix_base.specs.declared.events.ChannelMeta.{ChannelMeta}
use Rattle.ix_base.specs.declared.events.Event.{Event}
use Rattle.ix_base.specs.declared.events.Line.{Line}
use Rattle.ix_base.specs.declared.events.Routed.{Routed}
use Rattle.ix_lines.specs.Breaks.{breaks_by}
use Rattle.ix_lines.specs.Lines as lines
use Rattle.ix_lines.specs.Walk.{BreakFinder}
use Rattle.ix_merge.specs.Events as events
use Rattle.ix_merge.specs.declared.events.Whole.{Whole}
use Rattle.ix_parse.specs.Marks.{marked}
use Rattle.ix_props.specs.declared.settings.Settings.{Settings}
use Rattle.ix_props.specs.declared.settings.TimeSettings.{TimeSettings}
use Rattle.ix_time.specs.Times.{time}
use Rattle.ix_time.specs.declared.chosen.Origin.{Origin}
use Rattle.ix_time.specs.declared.chosen.Origin.TheVariants.{Read, Last, Arrival}
use Rattle.ix_time.specs.declared.chosen.TimeFound.{TimeFound}
use Rattle.ix_transforms.specs.Changes.{changed}

-- the lines of a stream by a way of looking for breaks, those of an open one that later bytes
-- cannot change or all of a closed one, each cut at t bytes
abbrev pub lines_of : BreakFinder → ℕ → List Dated → Bool → List Line
lines_of look t stream false = lines.settled look t stream
lines_of look t stream true = lines.all_lines look t stream

-- the lines of a channel
abbrev pub channel_lines : Settings → List Dated → Bool → List Line
channel_lines s stream closed = lines_of (breaks_by s.breaker) (lines.effective s.truncate) stream closed

-- the events of an open stream that later bytes cannot change, or all of a closed one
abbrev pub events_of : Settings → List Dated → Bool → List Whole
events_of s stream false = events.settled s.merge.on s.merge.max_lines (marked s.merge s.time (channel_lines s stream false))
events_of s stream true = events.all_events s.merge.on s.merge.max_lines (marked s.merge s.time (channel_lines s stream true))

-- the latest time that was read and accepted, with this one
abbrev pub latest_by : Origin → ℤ → Option ℤ → Option ℤ
latest_by Read found latest = Some found
latest_by Last found latest = latest
latest_by Arrival found latest = latest

abbrev pub latest_with : TimeFound → Option ℤ → Option ℤ
latest_with found latest = latest_by found.origin found.time latest

-- the time of an event behind others of which this is the latest accepted one
abbrev pub time_behind : TimeSettings → Option ℤ → Whole → TimeFound
time_behind t latest event = time t event.raw event.moment latest

-- the latest accepted time behind an event, and behind events
abbrev pub latest_behind : TimeSettings → Option ℤ → Whole → Option ℤ
latest_behind t latest event = latest_with (time_behind t latest event) latest

abbrev pub latest_of : TimeSettings → Option ℤ → List Whole → Option ℤ
latest_of t latest events = fold (latest_behind t) latest events

-- an event before changes, with the channel's fields
abbrev pub event_of : List ℕ → ChannelMeta → ℤ → Whole → Event
event_of sourcetype meta time event = record {
  time = time;
  arrival = event.moment;
  index = unwrap_or meta.index [];
  host = meta.host;
  source = meta.source;
  sourcetype = sourcetype;
  meta = [];
  raw = event.raw;
}

-- what an event comes to that stands behind others of which this is the latest accepted time
abbrev pub outcome_of : Settings → ChannelMeta → Option ℤ → Whole → Routed
outcome_of s meta latest event =
    changed s.seds s.transforms (event_of s.sourcetype meta (time_behind s.time latest event).time event)

-- what events come to; an event that is nulled counts for the times of those behind it
abbrev pub outcomes : Settings → ChannelMeta → Option ℤ → List Whole → List Routed
outcomes s meta latest [] = []
outcomes s meta latest (event ∷ events) =
    outcome_of s meta latest event ∷ outcomes s meta (latest_behind s.time latest event) events

-- what is settled of a stream
abbrev pub settled : Settings → ChannelMeta → List Dated → Bool → List Routed
settled s meta stream closed = outcomes s meta None (events_of s stream closed)

-- what is settled of an open stream is the front of what is of each continuation, open or closed
abbrev pub SettledStays : Settings → Type 0
SettledStays settings = (meta : ChannelMeta) (stream later : List Dated) (closed : Bool) →
    (added : List Routed) × (settled settings meta (stream ++ later) closed ≡ settled settings meta stream false ++ added)
