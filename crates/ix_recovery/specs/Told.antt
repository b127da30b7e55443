-- What a list of what stands in a log says of a state.
use Rattle.std.specs.Prelude.{◌≡◌, ◌↔◌, ℕ, ℤ, pos, List, length, Some}
use Rattle.ix_base.specs.declared.events.ChannelMeta.{ChannelMeta}
use Rattle.ix_base.specs.declared.events.Spot.{Spot}
use Rattle.ix_items.specs.declared.items.Bucket.{Bucket}
use Rattle.ix_items.specs.declared.items.Entry.{Entry}
use Rattle.ix_items.specs.declared.items.Item.{Item}
use Rattle.ix_items.specs.declared.items.Item.TheVariants as items
use Rattle.ix_items.specs.declared.items.Kept.{Kept}
use Rattle.ix_model.specs.Buckets.{Index}
use Rattle.ix_model.specs.State.{State, ChannelHistory, Counts, index_name, spot_path, life_in}
use Rattle.ix_catalog.specs.Lists.{find}
use Rattle.ix_model.specs.Books.{life_item, bucket_in, entry_in}
use Rattle.ix_recovery.specs.Among.{IsAmong}

-- a channel of this name is open that is written as this item
abbrev pub IsOpenAs : State → List ℕ → Item → Type 0
IsOpenAs m name item = (life : ChannelHistory) × (life_in m name ≡ Some life) × (life_item life ≡ item)

-- an index of this name had so many buckets
abbrev pub HadBuckets : State → List ℕ → ℕ → Type 0
HadBuckets m name count = (i : Index) × (find index_name name m.catalog.indexes ≡ Some i) × (length i.slots ≡ count)

-- no item of moments, of counts or of a next file is in the list
abbrev pub NoMoments : List Item → Type 0
NoMoments said = (last tick : ℤ) → IsAmong (items.Moments last tick) said → ⊥

abbrev pub NoCounts : List Item → Type 0
NoCounts said = (settled nulled dropped placed : ℕ) → IsAmong (items.Counts settled nulled dropped placed) said → ⊥

abbrev pub NoNextFile : List Item → Type 0
NoNextFile said = (number : ℕ) → IsAmong (items.NextFile number) said → ⊥

abbrev pub AreCounts : Counts → ℕ → ℕ → ℕ → ℕ → Type 0
AreCounts c settled nulled dropped placed = (c.settled ≡ settled) × (c.nulled ≡ nulled) × (c.dropped ≡ dropped) × (c.placed ≡ placed)

-- The items of each kind are in the list exactly where the state has what they say. What is not
-- said is as it is in a store that has accepted nothing.
pub record Tells (said : List Item) (m : State) : Type 0 where
  pub settings : (kept : List Kept) → IsAmong (items.Settings kept) said ↔ (m.force ≡ kept)
  pub channel : (name : List ℕ) (meta : ChannelMeta) (carry : List ℕ) →
      IsAmong (items.Channel name meta carry) said ↔ IsOpenAs m name (items.Channel name meta carry)
  pub bucket : (index : List ℕ) (b : Bucket) → IsAmong (items.Bucket index b) said ↔ (bucket_in m index b.id ≡ Some b)
  pub entry : (e : Entry) → IsAmong (items.Ledger e) said ↔ (entry_in m e.index e.id ≡ Some e)
  pub spot : (s : Spot) → IsAmong (items.Spot s) said ↔ (find spot_path s.path m.spots ≡ Some s)
  pub next_id : (index : List ℕ) (id : ℕ) → IsAmong (items.NextId index id) said ↔ HadBuckets m index id
  pub moments : (last tick : ℤ) → IsAmong (items.Moments last tick) said → (m.last ≡ last) × (m.tick ≡ tick)
  pub no_moments : NoMoments said → (m.last ≡ pos 0) × (m.tick ≡ pos 0)
  pub counts : (settled nulled dropped placed : ℕ) → IsAmong (items.Counts settled nulled dropped placed) said →
      AreCounts m.catalog.counts settled nulled dropped placed
  pub no_counts : NoCounts said → AreCounts m.catalog.counts 0 0 0 0
  pub next_file : (number : ℕ) → IsAmong (items.NextFile number) said → m.catalog.next_file ≡ number
  pub no_next_file : NoNextFile said → m.catalog.next_file ≡ 1
