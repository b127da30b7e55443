-- What is put of each part of a state in memory, one behind the other.
use Rattle.std.specs.Prelude.{◌≡◌, ◌≤◌, ℕ, if◌then◌else◌, Bool, true, false, List, [], ◌∷◌, ◌++◌, take}
use Rattle.std.specs.List.{AllByRecursion, AllZip, flat_map}
use Rattle.ix_base.specs.declared.events.Spot.{Spot}
use Rattle.ix_items.specs.Spelling.{IsInRange}
use Rattle.ix_items.specs.declared.items.Bucket.{Bucket}
use Rattle.ix_items.specs.declared.items.Entry.{Entry}
use Rattle.ix_items.specs.declared.items.Item.{Item}
use Rattle.ix_items.specs.declared.items.Item.TheVariants as items
use Rattle.ix_life.specs.declared.views.IndexView.{IndexView}
use Rattle.ix_recovery.specs.ListLaws.{carried_in}
use Rattle.ix_model.specs.State.{ChannelHistory}
use Rattle.ix_catalog.specs.Measures.{has_number}
use Rattle.ix_catalog.specs.Shelves.{next_number}
use Rattle.ix_model.specs.Books.{life_item}
use Rattle.ix_state.specs.Held.{IsOpen}
use Rattle.ix_state.specs.declared.state.StoreState.{StoreState}
use Rattle.ix_state.specs.declared.state.OpenChannel.{OpenChannel}

-- ---- by what is in memory

abbrev pub setting_items : StoreState → List Item
setting_items held = items.Settings held.config.kept ∷ []

abbrev pub count_items : StoreState → List Item
count_items held =
    items.Moments held.last held.tick
    ∷ items.Counts held.view.settled held.view.nulled held.view.dropped held.placed
    ∷ items.NextFile held.next_file ∷ []

-- of a bucket of this index
abbrev pub bucket_item : List ℕ → Bucket → List Item
bucket_item index b = items.Bucket index b ∷ []

abbrev pub view_items : IndexView → List Item
view_items v = flat_map (bucket_item v.name) v.buckets

abbrev pub entry_item : Entry → List Item
entry_item e = items.Ledger e ∷ []

abbrev pub spot_item : Spot → List Item
spot_item s = items.Spot s ∷ []

-- of an index that has had a bucket
abbrev pub number_items : List Entry → IndexView → List Item
number_items ledger v = if has_number ledger v then items.NextId v.name (next_number v.name v.buckets ledger) ∷ [] else []

-- what stands behind the channels
abbrev pub shelf_items : StoreState → List Item
shelf_items held =
    flat_map view_items held.view.indexes
    ++ (flat_map entry_item held.view.ledger ++ (flat_map spot_item held.spots.items
    ++ flat_map (number_items held.view.ledger) held.view.indexes))

-- ---- channels

-- few bytes are carried
abbrev pub CarriesLittle : Item → Type 0
CarriesLittle item = carried_in item ≤ 8388608

-- The item of an open channel, with what is carried of whatever stream it has taken in.
pub record IsSaid (o : OpenChannel) (item : Item) : Type 0 where
  pub ranged : IsInRange item
  pub said : (life : ChannelHistory) → IsOpen life o → item ≡ life_item life
  pub few : (life : ChannelHistory) → IsOpen life o → CarriesLittle item

-- ---- all of it

-- whatever is put of the channels
abbrev pub memory_items : Bool → StoreState → List Item → List Item
memory_items true held said = setting_items held
memory_items false held said = setting_items held ++ (count_items held ++ (said ++ shelf_items held))

-- Each channel says its item, where the state is no fresh one.
pub record AreHeld (fresh : Bool) (held : StoreState) (list : List Item) : Type 0 where
  pub channels : List Item
  pub said : fresh ≡ false → AllZip IsSaid held.channels.items channels
  pub are : list ≡ memory_items fresh held channels
  pub ranged : AllByRecursion IsInRange list

-- ---- behind others

-- all but the settings was put
pub record IsRest (held : StoreState) (before after : List Item) : Type 0 where
  pub channels : List Item
  pub said : AllZip IsSaid held.channels.items channels
  pub put : after ≡ before ++ (count_items held ++ (channels ++ shelf_items held))
  pub ranged : AllByRecursion IsInRange (count_items held ++ (channels ++ shelf_items held))

-- what so many elements give was put
pub record IsPut {X : Type 0} (give : X → List Item) (xs : List X) (count : ℕ) (before after : List Item) : Type 0 where
  pub put : after ≡ before ++ flat_map give (take count xs)
  pub ranged : AllByRecursion IsInRange (flat_map give (take count xs))

-- what so many channels say was put
pub record AreSaid (opens : List OpenChannel) (before after : List Item) : Type 0 where
  pub channels : List Item
  pub said : AllZip IsSaid opens channels
  pub put : after ≡ before ++ channels
