-- What becomes of a bucket: it takes events, rolls, moves to cold, freezes and is thawed.
use Rattle.std.specs.Prelude.{◌+◌, ◌==◌, ◌||◌, ℕ, ℤ, pos, Bool, false, if◌then◌else◌, nat_le, List, [], ◌∷◌, length, Option, Some, None}
use Rattle.std.specs.Int.{int_min, int_max}
use Rattle.ix_base.specs.declared.events.Event.{Event}
use Rattle.ix_base.specs.declared.files.File.{File}
use Rattle.ix_base.specs.declared.files.Area.TheVariants as areas
use Rattle.ix_bucket.specs.Record.{event_bytes}
use Rattle.ix_items.specs.declared.items.Bucket.{Bucket}
use Rattle.ix_items.specs.declared.items.Entry.{Entry}
use Rattle.ix_items.specs.declared.items.Rule.{Rule}
use Rattle.ix_items.specs.declared.items.State.{State}
use Rattle.ix_items.specs.declared.items.State.TheVariants as states
use Rattle.ix_life.specs.Housekeeping.{megabytes}
use Rattle.ix_life.specs.Placing.{is_open}
use Rattle.ix_life.specs.declared.limits.Limits.{Limits}
use Rattle.ix_life.specs.declared.moves.Moves.{Moves}

-- the bytes of an event's record
abbrev pub size : Event → ℕ
size event = length (event_bytes event)

-- an event has the name of the index that it is stored in
abbrev pub named : List ℕ → Event → Event
named name event = record {
  time = event.time;
  arrival = event.arrival;
  index = name;
  host = event.host;
  source = event.source;
  sourcetype = event.sourcetype;
  meta = event.meta;
  raw = event.raw;
}

abbrev pub with_state : State → File → Bucket → Bucket
with_state state file b = record {
  id = b.id;
  state = state;
  file = file;
  bytes = b.bytes;
  count = b.count;
  newest = b.newest;
  oldest = b.oldest;
  used = b.used;
  touched = b.touched;
}

-- it has rolled to warm
abbrev pub rolled : Bucket → Bucket
rolled b = with_state states.Warm b.file b

-- a hot or quarantine bucket rolls to warm
abbrev pub rolled_if_open : Bucket → Bucket
rolled_if_open b = if is_open b then rolled b else b

-- it has moved to cold, and into a file of its own there
abbrev pub cooled : ℕ → Bucket → Bucket
cooled file b = with_state states.Cold (record { area = areas.Cold; number = file }) b

-- ---- events

-- one more event is in it, the `used`-th that the store has placed
abbrev pub with_event : Event → ℕ → ℤ → Bucket → Bucket
with_event event used moment b = record {
  id = b.id;
  state = b.state;
  file = b.file;
  bytes = b.bytes + size event;
  count = b.count + 1;
  newest = int_max b.newest event.time;
  oldest = int_min b.oldest event.time;
  used = used;
  touched = moment;
}

-- a new one, with one event
abbrev pub made : ℕ → State → ℕ → Event → ℕ → ℤ → Bucket
made id state file event used moment = record {
  id = id;
  state = state;
  file = record { area = areas.Home; number = file };
  bytes = size event;
  count = 1;
  newest = event.time;
  oldest = event.time;
  used = used;
  touched = moment;
}

-- events out of range go into a quarantine bucket
abbrev pub state_for : Bool → State
state_for quarantine = if quarantine then states.Quarantine else states.Hot

-- a bucket that has at least the bytes of the limit rolls to warm
abbrev pub closed : Limits → Bucket → Bucket
closed limits b = if nat_le (megabytes limits.max_data_mb) b.bytes then rolled b else b

-- ---- a turn of housekeeping

abbrev pub is_among : List ℕ → ℕ → Bool
is_among [] id = false
is_among (other ∷ ids) id = (other == id) || is_among ids id

-- the rule by which a bucket freezes
abbrev pub rule_of : List (ℕ × Rule) → ℕ → Option Rule
rule_of [] id = None
rule_of (x ∷ xs) id = if x.0 == id then Some x.1 else rule_of xs id

-- what is done, in which index, at which moment
pub record Turn : Type 0 where
  pub index : List ℕ
  pub archive : Bool
  pub moment : ℤ
  pub moves : Moves

-- the entry of a bucket that freezes; an archive has this file
abbrev pub entry_of : Turn → ℕ → Rule → Bucket → Entry
entry_of t file rule b = record {
  index = t.index;
  id = b.id;
  rule = rule;
  moment = t.moment;
  count = b.count;
  newest = b.newest;
  oldest = b.oldest;
  bytes = b.bytes;
  archive = if t.archive then Some file else None;
}

-- a bucket that stays, in this file where it moves to cold
abbrev pub staying : Turn → ℕ → Bucket → Bucket
staying t file b = if is_among t.moves.cooled b.id then cooled file b else if is_among t.moves.warmed b.id then rolled b else b

-- ---- a thaw

-- brought back from its archive
abbrev pub thawed : Entry → ℕ → Bucket
thawed e file = record {
  id = e.id;
  state = states.Thawed;
  file = record { area = areas.Thawed; number = file };
  bytes = e.bytes;
  count = e.count;
  newest = e.newest;
  oldest = e.oldest;
  used = 0;
  touched = pos 0;
}
