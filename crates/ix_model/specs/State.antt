-- What a store is: the settings in force, the open channels with their streams, the indexes with
-- all events of their buckets, and counts.
use Rattle.std.specs.Prelude.{ℕ, ℤ, pos, List, [], Option, unwrap_or}
use Rattle.ix_base.specs.Stream.{Dated}
use Rattle.ix_base.specs.declared.events.ChannelMeta.{ChannelMeta}
use Rattle.ix_base.specs.declared.events.Spot.{Spot}
use Rattle.ix_items.specs.declared.items.Entry.{Entry}
use Rattle.ix_items.specs.declared.items.Kept.{Kept}
use Rattle.ix_props.specs.declared.settings.Settings.{Settings}
use Rattle.ix_model.specs.Buckets.{Index, Slot}
use Rattle.ix_catalog.specs.Lists.{find}

-- an open channel: its metadata with the index that holds, the settings that it was begun under,
-- and the bytes that came since
pub record ChannelHistory : Type 0 where
  pub name : List ℕ
  pub meta : ChannelMeta
  pub settings : Settings
  pub stream : List Dated

-- how many events were settled, and how many of them nulled, dropped and placed
pub record Counts : Type 0 where
  pub settled : ℕ
  pub nulled : ℕ
  pub dropped : ℕ
  pub placed : ℕ

-- the indexes that ever had a bucket, by their names; the ledger, with the entries in the order in
-- which the buckets froze; the counts; and the number of the next file
pub record Catalog : Type 0 where
  pub indexes : List Index
  pub ledger : List Entry
  pub counts : Counts
  pub next_file : ℕ

-- channels stand by their names and spots by their paths; `last` is the moment of the last command,
-- `tick` that of the last Tick
pub record State : Type 0 where
  pub force : List Kept
  pub channels : List ChannelHistory
  pub spots : List Spot
  pub catalog : Catalog
  pub last : ℤ
  pub tick : ℤ

-- a store that has accepted nothing, under the built-in settings
abbrev pub empty : State
empty = record {
  force = [];
  channels = [];
  spots = [];
  catalog = record { indexes = []; ledger = []; counts = record { settled = 0; nulled = 0; dropped = 0; placed = 0 }; next_file = 1 };
  last = pos 0;
  tick = pos 0;
}

-- ---- by name

abbrev pub index_name : Index → List ℕ
index_name i = i.name

abbrev pub life_name : ChannelHistory → List ℕ
life_name l = l.name

abbrev pub spot_path : Spot → List ℕ
spot_path s = s.path

abbrev pub fresh_index : List ℕ → Index
fresh_index name = record { name = name; slots = [] }

-- an index, which has no bucket where it is not among these
abbrev pub index_in : List Index → List ℕ → Index
index_in indexes name = unwrap_or (find index_name name indexes) (fresh_index name)

abbrev pub slots_in : List Index → List ℕ → List Slot
slots_in indexes name = (index_in indexes name).slots

-- the channel of this name, where it is open
abbrev pub life_in : State → List ℕ → Option ChannelHistory
life_in m channel = find life_name channel m.channels
