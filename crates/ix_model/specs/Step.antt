-- What each command does, and the state after a history of commands.
use Rattle.std.specs.Prelude.{◌+◌, ℕ, ℤ, Bool, true, false, if◌then◌else◌, List, [], ◌∷◌, ◌++◌, length, drop, map, fold, Option, Some}
use Rattle.std.specs.Prelude.{None, is_some, is_none, unwrap_or, slice_get}
use Rattle.std.specs.List.{flat_map, sum_by}
use Rattle.std.specs.Int.{int_max}
use Rattle.ix_base.specs.Clocks.{clamped}
use Rattle.ix_base.specs.Stream.{dated}
use Rattle.ix_base.specs.declared.events.ChannelMeta.{ChannelMeta}
use Rattle.ix_base.specs.declared.events.Event.{Event}
use Rattle.ix_base.specs.declared.events.Routed.{Routed}
use Rattle.ix_base.specs.declared.events.Routed.TheVariants.{To, Null}
use Rattle.ix_base.specs.declared.events.Spot.{Spot}
use Rattle.ix_items.specs.declared.items.Entry.{Entry}
use Rattle.ix_items.specs.declared.items.Kept.{Kept}
use Rattle.ix_parse.specs.Settled.{settled}
use Rattle.ix_props.specs.declared.settings.Settings.{Settings}
use Rattle.ix_transforms.specs.Changes.{changed}
use Rattle.ix_model.specs.Buckets.{Index, Slot}
use Rattle.ix_model.specs.Given.{Chooser, home, limits, resolved}
use Rattle.ix_model.specs.Keeping as kept
use Rattle.ix_catalog.specs.Buckets.{Turn, named}
use Rattle.ix_catalog.specs.Lists.{find, without, update, change, insert, change_or_insert}
use Rattle.ix_model.specs.Placed.{placed, target_of}
use Rattle.ix_model.specs.State.{State, Catalog, Counts, ChannelHistory, index_name, life_name, spot_path, fresh_index, slots_in, life_in}
use Rattle.ix_model.specs.State.{empty}
use Rattle.ix_model.specs.declared.commands.Command.{Command}
use Rattle.ix_model.specs.declared.commands.Command.TheVariants.{Begin, Block, End, Tick, Roll, Thaw, Configure, Direct}
use Rattle.ix_model.specs.declared.commands.Direct.{Direct as DirectEvent}
use Rattle.ix_model.specs.declared.commands.TimedCommand.{TimedCommand}

-- ---- what an outcome does to the catalog

abbrev pub one_nulled : Counts → Counts
one_nulled c = record { settled = c.settled + 1; nulled = c.nulled + 1; dropped = c.dropped; placed = c.placed }

abbrev pub one_dropped : Counts → Counts
one_dropped c = record { settled = c.settled + 1; nulled = c.nulled; dropped = c.dropped + 1; placed = c.placed }

abbrev pub one_placed : Counts → Counts
one_placed c = record { settled = c.settled + 1; nulled = c.nulled; dropped = c.dropped; placed = c.placed + 1 }

-- an index with one event more
abbrev pub filled : List Kept → ℤ → ℕ → ℕ → Event → Index → Index
filled force moment file used event i = record {
  name = i.name;
  slots = placed (limits force i.name) file event used moment i.slots;
}

-- whether the event makes a new bucket
abbrev pub is_fresh : List Kept → Event → Index → Bool
is_fresh force event i = is_none (target_of (limits force i.name) event i.slots).into

abbrev pub index_at : Catalog → List ℕ → Index
index_at s name = unwrap_or (find index_name name s.indexes) (fresh_index name)

abbrev pub put_event : List Kept → ℤ → Catalog → Event → List ℕ → Catalog
put_event force moment s event name = record {
  indexes = change_or_insert index_name name (filled force moment s.next_file (s.counts.placed + 1) event) (fresh_index name) s.indexes;
  ledger = s.ledger;
  counts = one_placed s.counts;
  next_file = if is_fresh force event (index_at s name) then s.next_file + 1 else s.next_file;
}

abbrev pub deal_to : List Kept → ℤ → Catalog → Event → Option (List ℕ) → Catalog
deal_to force moment s event None = record {
  indexes = s.indexes;
  ledger = s.ledger;
  counts = one_dropped s.counts;
  next_file = s.next_file;
}
deal_to force moment s event (Some name) = put_event force moment s (named name event) name

-- an event goes to its home or is dropped, and one of the null queue is counted
abbrev pub deal : List Kept → ℤ → Catalog → Routed → Catalog
deal force moment s (To event) = deal_to force moment s event (home force event.index)
deal force moment s Null = record { indexes = s.indexes; ledger = s.ledger; counts = one_nulled s.counts; next_file = s.next_file }

abbrev pub deal_all : List Kept → ℤ → Catalog → List Routed → Catalog
deal_all force moment s outcomes = fold (deal force moment) s outcomes

-- ---- what a command adds

-- what stands past what was settled before
abbrev pub past : ChannelHistory → List Routed → List Routed
past life routed = drop (length (settled life.settings life.meta life.stream false)) routed

abbrev pub longer : List ℕ → ℤ → ChannelHistory → ChannelHistory
longer bytes moment life = record {
  name = life.name;
  meta = life.meta;
  settings = life.settings;
  stream = life.stream ++ dated bytes moment;
}

-- what bytes add to a channel, and what its end does
abbrev pub block_adds : List ℕ → ℤ → Option ChannelHistory → List Routed
block_adds bytes moment None = []
block_adds bytes moment (Some life) = past life (settled life.settings life.meta (life.stream ++ dated bytes moment) false)

abbrev pub end_adds : Option ChannelHistory → List Routed
end_adds None = []
end_adds (Some life) = past life (settled life.settings life.meta life.stream true)

-- an event that comes already cut, before it is changed
abbrev pub direct_event : Settings → ChannelMeta → ℤ → DirectEvent → Event
direct_event settings meta moment direct = record {
  time = unwrap_or direct.time moment;
  arrival = moment;
  index = unwrap_or meta.index [];
  host = meta.host;
  source = meta.source;
  sourcetype = settings.sourcetype;
  meta = [];
  raw = direct.raw;
}

abbrev pub direct_by : Settings → ChannelMeta → ℤ → DirectEvent → Routed
direct_by settings meta moment direct = changed settings.seds settings.transforms (direct_event settings meta moment direct)

abbrev pub direct_adds : Chooser → List Kept → ℤ → DirectEvent → Routed
direct_adds choose force moment direct =
    direct_by (choose force (resolved force direct.meta)) (resolved force direct.meta) moment direct

-- the outcomes that a command adds, in order
abbrev pub outcomes : Chooser → State → Command → ℤ → List Routed
outcomes choose m (Begin channel meta) moment = []
outcomes choose m (Block channel bytes spot) moment = block_adds bytes moment (life_in m channel)
outcomes choose m (End channel) moment = end_adds (life_in m channel)
outcomes choose m Tick moment = []
outcomes choose m (Roll index) moment = []
outcomes choose m (Thaw index id) moment = []
outcomes choose m (Configure config) moment = flat_map (λ (life : ChannelHistory). end_adds (Some life)) m.channels
outcomes choose m (Direct events) moment = map (direct_adds choose m.force moment) events

-- ---- what a command does to the buckets beside

-- a turn of housekeeping, index by index
abbrev pub turn_in : List Kept → ℤ → Index → Turn
turn_in force moment i = kept.turn_of i.name (limits force i.name) moment i.slots

abbrev pub turned_index : List Kept → ℤ → ℕ → Index → Index
turned_index force moment file i = record { name = i.name; slots = kept.all_turned (turn_in force moment i) file i.slots }

abbrev pub files_taken : List Kept → ℤ → Index → ℕ
files_taken force moment i = kept.files_taken (turn_in force moment i) i.slots

abbrev pub all_turned : List Kept → ℤ → ℕ → List Index → List Index
all_turned force moment file [] = []
all_turned force moment file (i ∷ is) =
    turned_index force moment file i ∷ all_turned force moment (file + files_taken force moment i) is

-- the entries of the buckets that freeze, index by index, and in an index as its turn goes
abbrev pub entries_in : List Kept → ℤ → ℕ → Index → List Entry
entries_in force moment file i = kept.entries_of (turn_in force moment i) (turned_index force moment file i).slots

abbrev pub all_entries : List Kept → ℤ → ℕ → List Index → List Entry
all_entries force moment file [] = []
all_entries force moment file (i ∷ is) =
    entries_in force moment file i ++ all_entries force moment (file + files_taken force moment i) is

abbrev pub tick : List Kept → ℤ → Catalog → Catalog
tick force moment s = record {
  indexes = all_turned force moment s.next_file s.indexes;
  ledger = s.ledger ++ all_entries force moment s.next_file s.indexes;
  counts = s.counts;
  next_file = s.next_file + sum_by (files_taken force moment) s.indexes;
}

abbrev pub closed_index : Index → Index
closed_index i = record { name = i.name; slots = map kept.closed_slot i.slots }

abbrev pub roll : List ℕ → Catalog → Catalog
roll index s = record {
  indexes = change index_name index closed_index s.indexes;
  ledger = s.ledger;
  counts = s.counts;
  next_file = s.next_file;
}

abbrev pub thawed_index : ℕ → ℕ → Index → Index
thawed_index id file i = record { name = i.name; slots = update id (kept.thawed_slot file) i.slots }

-- whether a bucket can be brought back: it is frozen, has an archive, and is not thawed
abbrev pub can_thaw : Option Slot → Bool
can_thaw None = false
can_thaw (Some s) = kept.can_thaw s.standing

abbrev pub thaws : List ℕ → ℕ → Catalog → Bool
thaws index id s = can_thaw (slice_get (slots_in s.indexes index) id)

abbrev pub thaw : List ℕ → ℕ → Catalog → Catalog
thaw index id s = record {
  indexes = change index_name index (thawed_index id s.next_file) s.indexes;
  ledger = s.ledger;
  counts = s.counts;
  next_file = if thaws index id s then s.next_file + 1 else s.next_file;
}

abbrev pub moves : List Kept → Command → ℤ → Catalog → Catalog
moves force (Begin channel meta) moment s = s
moves force (Block channel bytes spot) moment s = s
moves force (End channel) moment s = s
moves force Tick moment s = tick force moment s
moves force (Roll index) moment s = roll index s
moves force (Thaw index id) moment s = thaw index id s
moves force (Configure config) moment s = s
moves force (Direct events) moment s = s

-- ---- what a command does to channels, spots and settings

abbrev pub begun : Chooser → List Kept → List ℕ → ChannelMeta → ChannelHistory
begun choose force channel meta = record {
  name = channel;
  meta = resolved force meta;
  settings = choose force (resolved force meta);
  stream = [];
}

-- a name is begun once
abbrev pub channels_with : Chooser → State → List ℕ → ChannelMeta → List ChannelHistory
channels_with choose m channel meta =
    if is_some (life_in m channel) then m.channels else insert life_name (begun choose m.force channel meta) m.channels

abbrev pub channels : Chooser → State → Command → ℤ → List ChannelHistory
channels choose m (Begin channel meta) moment = channels_with choose m channel meta
channels choose m (Block channel bytes spot) moment = change life_name channel (longer bytes moment) m.channels
channels choose m (End channel) moment = without life_name channel m.channels
channels choose m Tick moment = m.channels
channels choose m (Roll index) moment = m.channels
channels choose m (Thaw index id) moment = m.channels
channels choose m (Configure config) moment = []
channels choose m (Direct events) moment = m.channels

abbrev pub with_spot : List Spot → Option Spot → List Spot
with_spot spots None = spots
with_spot spots (Some spot) = change_or_insert spot_path spot.path (λ (old : Spot). spot) spot spots

abbrev pub spots : State → Command → List Spot
spots m (Begin channel meta) = m.spots
spots m (Block channel bytes spot) = with_spot m.spots spot
spots m (End channel) = m.spots
spots m Tick = m.spots
spots m (Roll index) = m.spots
spots m (Thaw index id) = m.spots
spots m (Configure config) = m.spots
spots m (Direct events) = m.spots

abbrev pub force : List Kept → Command → List Kept
force old (Begin channel meta) = old
force old (Block channel bytes spot) = old
force old (End channel) = old
force old Tick = old
force old (Roll index) = old
force old (Thaw index id) = old
force old (Configure config) = config.kept
force old (Direct events) = old

abbrev pub last_tick : ℤ → Command → ℤ → ℤ
last_tick old (Begin channel meta) moment = old
last_tick old (Block channel bytes spot) moment = old
last_tick old (End channel) moment = old
last_tick old Tick moment = moment
last_tick old (Roll index) moment = old
last_tick old (Thaw index id) moment = old
last_tick old (Configure config) moment = old
last_tick old (Direct events) moment = old

-- ---- commands and histories

-- moments are brought into their range, and never fall
abbrev pub effective : ℤ → ℤ → ℤ
effective last moment = int_max last (clamped moment)

-- what a command adds is dealt, and the buckets are moved, under the settings that were in force
-- before it
abbrev pub stepped : Chooser → State → Command → ℤ → State
stepped choose m command moment = record {
  force = force m.force command;
  channels = channels choose m command moment;
  spots = spots m command;
  catalog = moves m.force command moment (deal_all m.force moment m.catalog (outcomes choose m command moment));
  last = moment;
  tick = last_tick m.tick command moment;
}

abbrev pub step : Chooser → State → TimedCommand → State
step choose m order = stepped choose m order.command (effective m.last order.moment)

abbrev pub after_from : Chooser → State → List TimedCommand → State
after_from choose m [] = m
after_from choose m (order ∷ history) = after_from choose (step choose m order) history

abbrev pub state_after : Chooser → List TimedCommand → State
state_after choose history = after_from choose empty history
