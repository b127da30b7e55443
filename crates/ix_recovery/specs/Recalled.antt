-- The state in memory that is made of what the items of a log say.
use Rattle.std.specs.Prelude.{◌≡◌, ◌⊎◌, ℕ, if◌then◌else◌, List, [], reverse, Option, Some, None, bytes_eq}
use Rattle.std.specs.List.{AllByRecursion, AllZip, Any, filter_map}
use Rattle.std.specs.List.Sorted.{IsPermutation, IsSortedBy, IsSortedByKey}
use Rattle.std.specs.Ordering.{nat_cmp}
use Rattle.ix_base.specs.Stream.{Dated}
use Rattle.ix_parse.specs.Form.{IsCarryOf}
use Rattle.ix_parse.specs.declared.carry.Carry.{Carry}
use Rattle.ix_manifest.specs.Book.{empty, replay}
use Rattle.ix_items.specs.declared.items.Bucket.{Bucket}
use Rattle.ix_items.specs.declared.items.Item.{Item}
use Rattle.ix_items.specs.declared.items.Item.TheVariants as items
use Rattle.ix_items.specs.declared.items.Kept.{Kept}
use Rattle.ix_state.specs.Configs.{IsChooser, IsConfig}
use Rattle.ix_state.specs.Taken.{AreGiven}
use Rattle.ix_life.specs.declared.sets.LimitSet.{LimitSet}
use Rattle.ix_life.specs.declared.views.IndexView.{IndexView}
use Rattle.ix_model.specs.Buckets.{Index, buckets}
use Rattle.ix_model.specs.Given.{Chooser}
use Rattle.ix_model.specs.Ranked.{ranked}
use Rattle.ix_model.specs.State.{index_name, spot_path}
use Rattle.ix_model.specs.declared.commands.Config.{Config}
use Rattle.ix_model.specs.declared.commands.TimedCommand.{TimedCommand}
use Rattle.ix_parse.specs.Carry.{rules_of, carry_of}
use Rattle.ix_parse.specs.Standing.{StandsFor}
use Rattle.ix_props.specs.Settings.{AreSettings, AreUsable}
use Rattle.ix_props.specs.declared.props.PropsEntry.{PropsEntry}
use Rattle.ix_props.specs.declared.settings.Settings.{Settings}
use Rattle.ix_catalog.specs.Lists.{stands_before, AreAscending}
use Rattle.ix_bounds.specs.Names.{HasName}
use Rattle.ix_bounds.specs.Shelving.{AreSettings as HasLimits}
use Rattle.ix_bounds.specs.declared.shelving.Bucketed.{Bucketed}
use Rattle.ix_model.specs.Shelved.{shelved_indexes}
use Rattle.ix_model.specs.Snap.{snapshot_of}
use Rattle.ix_state.specs.declared.state.StoreState.{StoreState}
use Rattle.ix_state.specs.declared.state.OpenChannel.{OpenChannel}
use Rattle.ix_store.specs.Written.{over}
use Rattle.ix_store.specs.declared.faulty_item.FaultyItem.{FaultyItem}
use Rattle.ix_store.specs.declared.faulty_item.FaultyItem.TheVariants as subjects
use Rattle.ix_recovery.specs.declared.gathering.Carried.{Carried}
use Rattle.ix_recovery.specs.declared.gathering.GatheredItems.{GatheredItems}
use Rattle.ix_recovery.specs.declared.gathering.Placed.{Placed}

-- ---- order

abbrev pub carried_name : Carried → List ℕ
carried_name c = c.name

abbrev pub itself : List ℕ → List ℕ
itself name = name

-- the same things, in the order of the bytes of their names
pub record AreSorted {X : Type 0} (name_of : X → List ℕ) (given sorted : List X) : Type 0 where
  pub same : IsPermutation given sorted
  pub rising : IsSortedBy (stands_before name_of) sorted

-- ---- channels

-- The channel, which names its index, goes on by the settings that are chosen for it, by which its
-- bytes are a carry: it stands for each stream of which this is carried.
pub record IsResumed (props : List PropsEntry) (carried : Carried) (held : OpenChannel) : Type 0 where
  pub name : held.name ≡ carried.name
  pub meta : held.meta ≡ carried.meta
  pub indexed : carried.meta.index ≡ None → ⊥
  pub settings : Settings
  pub chosen : AreSettings props carried.meta settings
  pub usable : AreUsable settings
  pub read : (said : Carry) × IsCarryOf (rules_of settings) carried.carry said
  pub stands : (stream : List Dated) → IsCarryOf (rules_of settings) carried.carry (carry_of settings stream) →
      StandsFor settings carried.meta stream held.channel

-- what is carried is no carry by the settings that are chosen
pub record HasNoCarry (props : List PropsEntry) (carried : Carried) : Type 0 where
  pub settings : Settings
  pub chosen : AreSettings props carried.meta settings
  pub usable : AreUsable settings
  pub none : (said : Carry) → IsCarryOf (rules_of settings) carried.carry said → ⊥

-- all of them, in the order of their names
pub record AreResumed (given : List Carried) (props : List PropsEntry) (channels : List OpenChannel) : Type 0 where
  pub sorted : List Carried
  pub in_order : AreSorted carried_name given sorted
  pub resumed : AllZip (IsResumed props) sorted channels

-- no channel was left so: none is without an index
abbrev pub IsNoChannel : List PropsEntry → Carried → Type 0
IsNoChannel props carried = (carried.meta.index ≡ None) ⊎ HasNoCarry props carried

-- it is that of the subject
abbrev pub IsBadChannel : List PropsEntry → FaultyItem → Carried → Type 0
IsBadChannel props subject carried = (subject ≡ subjects.Channel carried.name) × IsNoChannel props carried

-- one of them, that of the subject, cannot go on
pub record HasBad (given : List Carried) (props : List PropsEntry) (subject : FaultyItem) : Type 0 where
  pub sorted : List Carried
  pub in_order : AreSorted carried_name given sorted
  pub bad : Any (IsBadChannel props subject) sorted

-- ---- buckets

abbrev pub bucket_of : List ℕ → Placed → Option Bucket
bucket_of index placed = if bytes_eq placed.index index then Some placed.bucket else None

abbrev pub bucket_id : Bucket → ℕ
bucket_id b = b.id

-- those of an index, by their numbers
pub record AreBucketsOf (placed : List Placed) (index : List ℕ) (buckets : List Bucket) : Type 0 where
  pub same : IsPermutation (filter_map (bucket_of index) placed) buckets
  pub rising : IsSortedByKey bucket_id nat_cmp buckets

-- an index is listed with them
pub record IsListed (placed : List Placed) (name : List ℕ) (listed : Bucketed) : Type 0 where
  pub name_is : listed.name ≡ name
  pub buckets_are : AreBucketsOf placed name listed.buckets

-- an index of which these are the buckets
pub record IsIndexOf (placed : List Placed) (name : List ℕ) (i : Index) : Type 0 where
  pub name_is : i.name ≡ name
  pub buckets_are : (given : List Bucket) → AreBucketsOf placed name given → given ≡ buckets i.slots

-- What is seen of the indexes that ever had a bucket, with their buckets, and of those that are
-- configured.
pub record AreShelved (names : List (List ℕ)) (placed : List Placed) (set : LimitSet) (views : List IndexView) : Type 0 where
  pub sorted : List (List ℕ)
  pub in_order : AreSorted itself names sorted
  pub seen : (force : List Kept) (all : List Index) → HasLimits force set → AllZip (IsIndexOf placed) sorted all →
      AllByRecursion HasName all →
      AreAscending index_name all → views ≡ shelved_indexes force all

-- ---- all of it

-- What is in memory is made of what was gathered.
pub record IsRecalled (g : GatheredItems) (held : StoreState) : Type 0 where
  pub config : IsConfig held.config
  pub kept : held.config.kept ≡ g.kept
  pub channels : AreResumed g.channels held.config.props held.channels.items
  pub spots : AreSorted spot_path g.spots held.spots.items
  pub indexes : AreShelved g.indexes g.buckets held.config.limits held.view.indexes
  -- the items were taken from the last one on
  pub ledger : held.view.ledger ≡ ranked (reverse g.entries)
  pub settled : held.view.settled ≡ g.counts.settled
  pub nulled : held.view.nulled ≡ g.counts.nulled
  pub dropped : held.view.dropped ≡ g.counts.dropped
  pub placed : held.placed ≡ g.counts.placed
  pub next_file : held.next_file ≡ g.next_file
  pub last : held.last ≡ g.last
  pub tick : held.tick ≡ g.tick

-- settings that give no values: they are some, and those of no Config
pub record HaveNoValues (kept : List Kept) : Type 0 where
  pub some : kept ≡ [] → ⊥
  pub none : (config : Config) → IsConfig config → config.kept ≡ kept → ⊥

-- by the settings, the channel of the subject cannot go on
pub record HasBadChannel (g : GatheredItems) (subject : FaultyItem) : Type 0 where
  pub config : Config
  pub is_config : IsConfig config
  pub kept : config.kept ≡ g.kept
  pub has_bad : HasBad g.channels config.props subject

abbrev pub IsNoState : FaultyItem → GatheredItems → Type 0
IsNoState subject g = ((subject ≡ subjects.Settings) × HaveNoValues g.kept) ⊎ HasBadChannel g subject

-- by settings that give values, a channel that cannot go on
pub record CannotGoOn (kept : List Kept) (carried : Carried) : Type 0 where
  pub config : Config
  pub is_config : IsConfig config
  pub is_kept : config.kept ≡ kept
  pub none : IsNoChannel config.props carried

-- Of which items no state comes, by the settings that are kept: settings without values, and an
-- open channel that cannot go on.
abbrev pub GivesNone : List Kept → Item → Type 0
GivesNone force (items.Settings kept) = HaveNoValues kept
GivesNone force (items.Channel name meta carry) = CannotGoOn force (record { name = name; meta = meta; carry = carry })
GivesNone force other = ⊥

-- ---- histories

-- The items are what the log of the history's store has.
pub record IsLog (choose : Chooser) (history : List TimedCommand) (items : List Item) : Type 0 where
  pub chooser : IsChooser choose
  pub given : AreGiven history
  pub run : ℕ
  pub removed : Option Item
  pub is : replay items empty ≡ over run removed (snapshot_of choose history).book
