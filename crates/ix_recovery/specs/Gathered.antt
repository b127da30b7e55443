-- What the items of a log say, each kind in a list of its own.
use Rattle.std.specs.Prelude.{ℕ, ℤ, pos, List, [], ◌∷◌, ◌++◌, Option, Some, None, unwrap_or}
use Rattle.ix_base.specs.declared.events.Spot.{Spot}
use Rattle.ix_items.specs.declared.items.Entry.{Entry}
use Rattle.ix_items.specs.declared.items.Item.{Item}
use Rattle.ix_items.specs.declared.items.Item.TheVariants as items
use Rattle.ix_items.specs.declared.items.Kept.{Kept}
use Rattle.ix_recovery.specs.declared.gathering.Carried.{Carried}
use Rattle.ix_recovery.specs.declared.gathering.Counts.{Counts}
use Rattle.ix_recovery.specs.declared.gathering.GatheredItems.{GatheredItems}
use Rattle.ix_recovery.specs.declared.gathering.Placed.{Placed}

-- ---- what one item says

abbrev pub settings_in : Item → Option (List Kept)
settings_in (items.Settings kept) = Some kept
settings_in other = None

abbrev pub moments_in : Item → Option (ℤ × ℤ)
moments_in (items.Moments last tick) = Some (last, tick)
moments_in other = None

abbrev pub channel_in : Item → Option Carried
channel_in (items.Channel name meta carry) = Some (record { name = name; meta = meta; carry = carry })
channel_in other = None

abbrev pub bucket_in : Item → Option Placed
bucket_in (items.Bucket index bucket) = Some (record { index = index; bucket = bucket })
bucket_in other = None

abbrev pub entry_in : Item → Option Entry
entry_in (items.Ledger entry) = Some entry
entry_in other = None

abbrev pub counts_in : Item → Option Counts
counts_in (items.Counts settled nulled dropped placed) =
    Some (record { settled = settled; nulled = nulled; dropped = dropped; placed = placed })
counts_in other = None

abbrev pub spot_in : Item → Option Spot
spot_in (items.Spot spot) = Some spot
spot_in other = None

abbrev pub next_file_in : Item → Option ℕ
next_file_in (items.NextFile number) = Some number
next_file_in other = None

-- an index that ever had a bucket, by the number of its next one
abbrev pub index_in : Item → Option (List ℕ)
index_in (items.NextId index id) = Some index
index_in other = None

-- ---- what all of them say

abbrev pub no_counts : Counts
no_counts = record { settled = 0; nulled = 0; dropped = 0; placed = 0 }

abbrev pub nothing : GatheredItems
nothing = record {
  kept = [];
  channels = [];
  buckets = [];
  entries = [];
  spots = [];
  indexes = [];
  counts = no_counts;
  next_file = 1;
  last = pos 0;
  tick = pos 0;
}

-- a list, with one more where there is one
abbrev pub with_one : {A : Type 0} → List A → Option A → List A
with_one xs None = xs
with_one xs (Some x) = xs ++ x ∷ []

-- one item more
abbrev pub taken : Item → GatheredItems → GatheredItems
taken item g = record {
  kept = unwrap_or (settings_in item) g.kept;
  channels = with_one g.channels (channel_in item);
  buckets = with_one g.buckets (bucket_in item);
  entries = with_one g.entries (entry_in item);
  spots = with_one g.spots (spot_in item);
  indexes = with_one g.indexes (index_in item);
  counts = unwrap_or (counts_in item) g.counts;
  next_file = unwrap_or (next_file_in item) g.next_file;
  last = (unwrap_or (moments_in item) (g.last, g.tick)).0;
  tick = (unwrap_or (moments_in item) (g.last, g.tick)).1;
}

-- the last one first
abbrev pub all_taken : List Item → GatheredItems → GatheredItems
all_taken [] g = g
all_taken (item ∷ items) g = taken item (all_taken items g)
