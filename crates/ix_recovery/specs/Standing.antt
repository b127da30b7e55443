-- What the items of a log say of a state.
use Rattle.std.specs.Prelude.{◌≡◌, ◌≤◌, pos, List, [], ◌∷◌, map, length}
use Rattle.std.specs.List.{filter_map, flat_map}
use Rattle.std.specs.List.Sorted.{IsPermutation}
use Rattle.ix_items.specs.declared.items.Bucket.{Bucket}
use Rattle.ix_items.specs.declared.items.Item.{Item}
use Rattle.ix_parse.specs.Spelling.{spell}
use Rattle.ix_parse.specs.Carry.{carry_of}
use Rattle.ix_model.specs.Buckets.{Index, buckets}
use Rattle.ix_model.specs.Ledger.{all_frozen}
use Rattle.ix_model.specs.State.{State, Counts as Counted, ChannelHistory, index_name}
use Rattle.ix_recovery.specs.declared.gathering.Carried.{Carried}
use Rattle.ix_recovery.specs.declared.gathering.Counts.{Counts}
use Rattle.ix_recovery.specs.declared.gathering.GatheredItems.{GatheredItems}
use Rattle.ix_recovery.specs.declared.gathering.Placed.{Placed}
use Rattle.ix_recovery.specs.Gathered.{settings_in, moments_in, channel_in, bucket_in, entry_in, counts_in, spot_in, next_file_in}
use Rattle.ix_recovery.specs.Gathered.{index_in, no_counts}

-- an open channel, with what is carried of its stream
abbrev pub carried_life : ChannelHistory → Carried
carried_life life = record { name = life.name; meta = life.meta; carry = spell (carry_of life.settings life.stream) }

-- the buckets that are listed of an index
abbrev pub placed_in : Index → List Placed
placed_in i = map (λ (b : Bucket). record { index = i.name; bucket = b }) (buckets i.slots)

abbrev pub counted : Counted → Counts
counted c = record { settled = c.settled; nulled = c.nulled; dropped = c.dropped; placed = c.placed }

abbrev pub first_or : {A : Type 0} → A → List A → A
first_or default [] = default
first_or default (x ∷ xs) = x

-- at most one thing, or else the default
pub record IsOnly {A : Type 0} (default value : A) (xs : List A) : Type 0 where
  pub few : length xs ≤ 1
  pub value_is : first_or default xs ≡ value

-- The items say what the state has, each kind in the order in which the state has it.
pub record SaysAll (m : State) (said : List Item) : Type 0 where
  pub settings : IsOnly [] m.force (filter_map settings_in said)
  pub moments : IsOnly (pos 0, pos 0) (m.last, m.tick) (filter_map moments_in said)
  pub counts : IsOnly no_counts (counted m.catalog.counts) (filter_map counts_in said)
  pub next_file : IsOnly 1 m.catalog.next_file (filter_map next_file_in said)
  pub channels : filter_map channel_in said ≡ map carried_life m.channels
  pub buckets_are : filter_map bucket_in said ≡ flat_map placed_in m.catalog.indexes
  pub entries : filter_map entry_in said ≡ all_frozen m.catalog.indexes
  pub spots : filter_map spot_in said ≡ m.spots
  pub indexes : filter_map index_in said ≡ map index_name m.catalog.indexes

-- What was gathered is what the state has, each list in some order.
pub record IsGathered (m : State) (g : GatheredItems) : Type 0 where
  pub kept : g.kept ≡ m.force
  pub last : g.last ≡ m.last
  pub tick : g.tick ≡ m.tick
  pub counts : g.counts ≡ counted m.catalog.counts
  pub next_file : g.next_file ≡ m.catalog.next_file
  pub channels : IsPermutation (map carried_life m.channels) g.channels
  pub buckets_are : IsPermutation (flat_map placed_in m.catalog.indexes) g.buckets
  pub entries : IsPermutation (all_frozen m.catalog.indexes) g.entries
  pub spots : IsPermutation m.spots g.spots
  pub indexes : IsPermutation (map index_name m.catalog.indexes) g.indexes
