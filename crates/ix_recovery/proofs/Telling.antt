-- What a list of what stands in a log says of the state of its history.
use Rattle.std.proofs.Common.{◌≡◌, ℕ, ℤ, List, [], ◌∷◌, length, refl, sym, ap, ◌∙◌}
use Rattle.std.specs.Prelude.{◌↔◌, Option, Some, None, pos}
use Rattle.std.specs.Option.{option_map}
use Rattle.ix_base.specs.declared.events.ChannelMeta.{ChannelMeta}
use Rattle.ix_base.specs.declared.events.Spot.{Spot}
use Rattle.ix_manifest.specs.Book.{NamedItems, named, name_of}
use Rattle.ix_items.specs.declared.items.Bucket.{Bucket}
use Rattle.ix_items.specs.declared.items.Entry.{Entry}
use Rattle.ix_items.specs.declared.items.Item.{Item}
use Rattle.ix_items.specs.declared.items.Item.TheVariants as items
use Rattle.ix_items.specs.declared.items.Kept.{Kept}
use Rattle.ix_model.specs.Buckets.{Index}
use Rattle.ix_model.specs.Given.{Chooser}
use Rattle.ix_model.specs.State.{State, ChannelHistory, index_name, spot_path, life_in}
use Rattle.ix_model.specs.Step.{state_after}
use Rattle.ix_model.specs.declared.commands.TimedCommand.{TimedCommand}
use Rattle.ix_replay.specs.Lists.{Lists}
use Rattle.ix_catalog.specs.Lists.{find}
use Rattle.ix_model.specs.Books.{life_item, number_item, bucket_in, entry_in}
use Rattle.ix_model.specs.Snap.{snapshot_of}
use Rattle.ix_model.proofs.Names.{found_name}
use Rattle.ix_model.proofs.Stood.{left_buckets, left_entries, left_numbers}
use Rattle.ix_store.specs.Written.{over}
use Rattle.ix_recovery.specs.Among.{IsAmong}
use Rattle.ix_recovery.specs.ListLaws.{ListsTell}
use Rattle.ix_recovery.specs.Told.{IsOpenAs, HadBuckets, NoMoments, NoCounts, NoNextFile, AreCounts}
use Rattle.ix_recovery.proofs.Booked.{stands, is_in}

none_some : {X : Type 0} {x : X} → None ≡ Some x → ⊥
none_some e = cc

some_same : {X : Type 0} {x y : X} → Some x ≡ Some y → x ≡ y
some_same e = cc

-- ---- what stands under names of channels, of spots and of settings

left_channels : (choose : Chooser) (history : List TimedCommand) (text : List ℕ) →
    (snapshot_of choose history).book (named 4 text 0) ≡ option_map life_item (life_in (state_after choose history) text)
left_channels choose [] text = refl
left_channels choose (o ∷ history) text = refl

left_spots : (choose : Chooser) (history : List TimedCommand) (text : List ℕ) →
    (snapshot_of choose history).book (named 10 text 0) ≡ option_map items.Spot (find spot_path text (state_after choose history).spots)
left_spots choose [] text = refl
left_spots choose (o ∷ history) text = refl

left_settings : (choose : Chooser) (history : List TimedCommand) →
    (snapshot_of choose history).book (named 1 [] 0) ≡ Some (items.Settings (state_after choose history).force)
left_settings choose [] = refl
left_settings choose (o ∷ history) = refl

-- ---- items that are made of one thing

settings_same : (a b : List Kept) → Some (items.Settings a) ≡ Some (items.Settings b) → a ≡ b
settings_same a b e = cc

moments_same : (a b c d : ℤ) → Some (items.Moments a b) ≡ Some (items.Moments c d) → (a ≡ c) × (b ≡ d)
moments_same a b c d e = (cc, cc)

counts_same : (a b c d e f g h : ℕ) → Some (items.Counts a b c d) ≡ Some (items.Counts e f g h) → (a ≡ e) × (b ≡ f) × (c ≡ g) × (d ≡ h)
counts_same a b c d e f g h is = (cc, cc, cc, cc)

next_same : (a b : ℕ) → Some (items.NextFile a) ≡ Some (items.NextFile b) → a ≡ b
next_same a b e = cc

bucket_same : (index : List ℕ) (b : Bucket) (o : Option Bucket) → option_map (items.Bucket index) o ≡ Some (items.Bucket index b) →
    o ≡ Some b
bucket_same index b None e = absurd (none_some e)
bucket_same index b (Some x) e = cc

entry_same : (x : Entry) (o : Option Entry) → option_map items.Ledger o ≡ Some (items.Ledger x) → o ≡ Some x
entry_same x None e = absurd (none_some e)
entry_same x (Some y) e = cc

spot_same : (s : Spot) (o : Option Spot) → option_map items.Spot o ≡ Some (items.Spot s) → o ≡ Some s
spot_same s None e = absurd (none_some e)
spot_same s (Some x) e = cc

life_is : (m : State) (name : List ℕ) (item : Item) (o : Option ChannelHistory) → life_in m name ≡ o → option_map life_item o ≡ Some item →
    IsOpenAs m name item
life_is m name item None is e = absurd (none_some e)
life_is m name item (Some life) is e = (life, is, some_same e)

number_is : (m : State) (name : List ℕ) (id : ℕ) (o : Option Index) → find index_name name m.catalog.indexes ≡ o →
    option_map number_item o ≡ Some (items.NextId name id) → HadBuckets m name id
number_is m name id None is e = absurd (none_some e)
number_is m name id (Some i) is e = (i, is, same (length i.slots) i.name e)
  where
    same : (n : ℕ) (text : List ℕ) → Some (items.NextId text n) ≡ Some (items.NextId name id) → n ≡ id
    same n text k = cc

module _ (choose : Chooser) (history : List TimedCommand) (run : ℕ) (removed : Option Item) (said : List Item)
    (lists : Lists said (over run removed (snapshot_of choose history).book)) where
  abbrev m : State
  m = state_after choose history

  abbrev whole : NamedItems
  whole = over run removed (snapshot_of choose history).book

  -- an item is in the list where it stands under its name
  among : (x : Item) → whole (name_of x) ≡ Some x → IsAmong x said
  among x e = (is_in said whole lists (name_of x) x e).0

  stood : (x : Item) → IsAmong x said → whole (name_of x) ≡ Some x
  stood x h = stands said whole lists x h

  settings_told : (kept : List Kept) → IsAmong (items.Settings kept) said ↔ (m.force ≡ kept)
  settings_told kept = (
    λ h. settings_same m.force kept (sym (left_settings choose history) ∙ stood (items.Settings kept) h),
    λ e. among (items.Settings kept) (left_settings choose history ∙ ap (λ (k : List Kept). Some (items.Settings k)) e),
  )

  channel_told : (name : List ℕ) (meta : ChannelMeta) (carry : List ℕ) →
      IsAmong (items.Channel name meta carry) said ↔ IsOpenAs m name (items.Channel name meta carry)
  channel_told name meta carry = (
    λ h. life_is m name (items.Channel name meta carry) (life_in m name) refl (sym (left_channels choose history name)
        ∙ stood (items.Channel name meta carry) h),
    λ open_as. among (items.Channel name meta carry) (left_channels choose history name ∙ ap (option_map life_item) open_as.1
        ∙ ap Some open_as.2),
  )

  bucket_told : (index : List ℕ) (b : Bucket) → IsAmong (items.Bucket index b) said ↔ (bucket_in m index b.id ≡ Some b)
  bucket_told index b = (
    λ h. bucket_same index b (bucket_in m index b.id) (sym (left_buckets choose history index b.id) ∙ stood (items.Bucket index b) h),
    λ e. among (items.Bucket index b) (left_buckets choose history index b.id ∙ ap (option_map (items.Bucket index)) e),
  )

  entry_told : (e : Entry) → IsAmong (items.Ledger e) said ↔ (entry_in m e.index e.id ≡ Some e)
  entry_told e = (
    λ h. entry_same e (entry_in m e.index e.id) (sym (left_entries choose history e.index e.id) ∙ stood (items.Ledger e) h),
    λ k. among (items.Ledger e) (left_entries choose history e.index e.id ∙ ap (option_map items.Ledger) k),
  )

  spot_told : (s : Spot) → IsAmong (items.Spot s) said ↔ (find spot_path s.path m.spots ≡ Some s)
  spot_told s = (
    λ h. spot_same s (find spot_path s.path m.spots) (sym (left_spots choose history s.path) ∙ stood (items.Spot s) h),
    λ k. among (items.Spot s) (left_spots choose history s.path ∙ ap (option_map items.Spot) k),
  )

  number_told : (index : List ℕ) (id : ℕ) → IsAmong (items.NextId index id) said ↔ HadBuckets m index id
  number_told index id = (
    λ h. number_is m index id (find index_name index m.catalog.indexes) refl (sym (left_numbers choose history index)
        ∙ stood (items.NextId index id) h),
    λ had. among (items.NextId index id) (left_numbers choose history index ∙ ap (option_map number_item) had.1
        ∙ (λ i. Some (items.NextId (found_name index_name index had.0 m.catalog.indexes had.1 i) (had.2 i)))),
  )

-- ---- what one item says alone

module _ (choose : Chooser) (run : ℕ) (removed : Option Item) (said : List Item) where
  moments_told : (history : List TimedCommand) → Lists said (over run removed (snapshot_of choose history).book) → (last tick : ℤ) →
      IsAmong (items.Moments last tick) said →
      ((state_after choose history).last ≡ last) × ((state_after choose history).tick ≡ tick)
  moments_told [] lists last tick h = absurd (none_some
      (stands said (over run removed (snapshot_of choose []).book) lists (items.Moments last tick) h))
  moments_told (o ∷ history) lists last tick h =
      moments_same (state_after choose (o ∷ history)).last (state_after choose (o ∷ history)).tick last tick
      (stands said (over run removed (snapshot_of choose (o ∷ history)).book) lists (items.Moments last tick) h)

  no_moments_told : (history : List TimedCommand) → Lists said (over run removed (snapshot_of choose history).book) → NoMoments said →
      ((state_after choose history).last ≡ pos 0) × ((state_after choose history).tick ≡ pos 0)
  no_moments_told [] lists none = (refl, refl)
  no_moments_told (o ∷ history) lists none =
      let m : State = state_after choose (o ∷ history) in
      absurd (none m.last m.tick (is_in said (over run removed (snapshot_of choose (o ∷ history)).book) lists (named 3 [] 0)
      (items.Moments m.last m.tick) refl).0)

  counts_told : (history : List TimedCommand) → Lists said (over run removed (snapshot_of choose history).book) →
      (settled nulled dropped placed : ℕ) →
      IsAmong (items.Counts settled nulled dropped placed) said →
      AreCounts (state_after choose history).catalog.counts settled nulled dropped placed
  counts_told [] lists settled nulled dropped placed h =
      absurd (none_some (stands said (over run removed (snapshot_of choose []).book) lists (items.Counts settled nulled dropped placed) h))
  counts_told (o ∷ history) lists settled nulled dropped placed h =
      let m : State = state_after choose (o ∷ history) in
      counts_same m.catalog.counts.settled m.catalog.counts.nulled m.catalog.counts.dropped m.catalog.counts.placed settled nulled dropped
      placed
      (stands said (over run removed (snapshot_of choose (o ∷ history)).book) lists (items.Counts settled nulled dropped placed) h)

  no_counts_told : (history : List TimedCommand) → Lists said (over run removed (snapshot_of choose history).book) → NoCounts said →
      AreCounts (state_after choose history).catalog.counts 0 0 0 0
  no_counts_told [] lists none = (refl, refl, refl, refl)
  no_counts_told (o ∷ history) lists none =
      let m : State = state_after choose (o ∷ history) in
      absurd (none m.catalog.counts.settled m.catalog.counts.nulled m.catalog.counts.dropped m.catalog.counts.placed
      (is_in said (over run removed (snapshot_of choose (o ∷ history)).book) lists (named 9 [] 0)
      (items.Counts m.catalog.counts.settled m.catalog.counts.nulled m.catalog.counts.dropped m.catalog.counts.placed) refl).0)

  next_told : (history : List TimedCommand) → Lists said (over run removed (snapshot_of choose history).book) → (number : ℕ) →
      IsAmong (items.NextFile number) said →
      (state_after choose history).catalog.next_file ≡ number
  next_told [] lists number h = absurd (none_some (stands said (over run removed (snapshot_of choose []).book) lists (items.NextFile number)
      h))
  next_told (o ∷ history) lists number h =
      next_same (state_after choose (o ∷ history)).catalog.next_file number
      (stands said (over run removed (snapshot_of choose (o ∷ history)).book) lists (items.NextFile number) h)

  no_next_told : (history : List TimedCommand) → Lists said (over run removed (snapshot_of choose history).book) → NoNextFile said →
      (state_after choose history).catalog.next_file ≡ 1
  no_next_told [] lists none = refl
  no_next_told (o ∷ history) lists none =
      let m : State = state_after choose (o ∷ history) in
      absurd (none m.catalog.next_file
      (is_in said (over run removed (snapshot_of choose (o ∷ history)).book) lists (named 11 [] 0) (items.NextFile m.catalog.next_file)
      refl).0)

pub lists_tell : ListsTell
lists_tell choose history run removed said lists = record {
  settings = settings_told choose history run removed said lists;
  channel = channel_told choose history run removed said lists;
  bucket = bucket_told choose history run removed said lists;
  entry = entry_told choose history run removed said lists;
  spot = spot_told choose history run removed said lists;
  next_id = number_told choose history run removed said lists;
  moments = moments_told choose run removed said history lists;
  no_moments = no_moments_told choose run removed said history lists;
  counts = counts_told choose run removed said history lists;
  no_counts = no_counts_told choose run removed said history lists;
  next_file = next_told choose run removed said history lists;
  no_next_file = no_next_told choose run removed said history lists;
}
