-- What the items that a state stands as say of it.
use Rattle.std.proofs.Common.{◌≡◌, ℕ, pos, List, [], ◌∷◌, ◌++◌, length, map, refl, sym, ap, ◌∙◌, arith}
use Rattle.std.specs.Prelude.{Option, Some, None, option_to_list}
use Rattle.std.specs.Option.{option_map}
use Rattle.std.specs.List.{filter_map, cons_option, flat_map}
use Rattle.std.proofs.lemmas.List.{append-nil, map-append}
use Rattle.std.proofs.lemmas.List.Elements.{filter_map-append}
use Rattle.ix_base.specs.declared.files.File.{File}
use Rattle.ix_base.specs.declared.events.Spot.{Spot}
use Rattle.ix_items.specs.declared.items.Bucket.{Bucket}
use Rattle.ix_items.specs.declared.items.Entry.{Entry}
use Rattle.ix_items.specs.declared.items.Item.{Item}
use Rattle.ix_items.specs.declared.items.Item.TheVariants as items
use Rattle.ix_model.specs.Buckets.{Slot, Index, listed, entered, buckets, ledger}
use Rattle.ix_model.specs.Given.{Chooser}
use Rattle.ix_model.specs.Ledger.{all_frozen}
use Rattle.ix_model.specs.State.{State, ChannelHistory, index_name}
use Rattle.ix_model.specs.Step.{state_after}
use Rattle.ix_model.specs.declared.commands.TimedCommand.{TimedCommand}
use Rattle.ix_model.specs.Books.{life_item, number_item}
use Rattle.ix_recovery.specs.Listed.{slot_items, index_items, single_items, state_items, left_items, all_items}
use Rattle.ix_recovery.specs.declared.gathering.Placed.{Placed}
use Rattle.ix_recovery.specs.Gathered.{settings_in, moments_in, channel_in, bucket_in, entry_in, counts_in, spot_in, next_file_in}
use Rattle.ix_recovery.specs.Gathered.{index_in, no_counts}
use Rattle.ix_recovery.specs.Standing.{carried_life, placed_in, counted, first_or, IsOnly, SaysAll}

-- ---- what is picked of lists that were made of others

module _ {A B C : Type 0} (f : B → Option C) where
  -- each is picked
  pub picked_all : (g : A → B) (h : A → C) → ((a : A) → f (g a) ≡ Some (h a)) → (xs : List A) → filter_map f (map g xs) ≡ map h xs
  picked_all g h each [] = refl
  picked_all g h each (a ∷ xs) = ap (λ o. cons_option o (filter_map f (map g xs))) (each a) ∙ ap (λ l. h a ∷ l) (picked_all g h each xs)

  pub picked_none : (g : A → B) → ((a : A) → f (g a) ≡ None) → (xs : List A) → filter_map f (map g xs) ≡ []
  picked_none g each [] = refl
  picked_none g each (a ∷ xs) = ap (λ o. cons_option o (filter_map f (map g xs))) (each a) ∙ picked_none g each xs

  -- each list gives a list
  pub picked_lists : (g : A → List B) (h : A → List C) → ((a : A) → filter_map f (g a) ≡ h a) → (xs : List A) →
      filter_map f (flat_map g xs) ≡ flat_map h xs
  picked_lists g h each [] = refl
  picked_lists g h each (a ∷ xs) =
      filter_map-append f (g a) (flat_map g xs) ∙ ap (λ l. l ++ filter_map f (flat_map g xs)) (each a)
      ∙ ap (λ l. h a ++ l) (picked_lists g h each xs)

  -- or nothing
  picked_nowhere : (g : A → List B) → ((a : A) → filter_map f (g a) ≡ []) → (xs : List A) → filter_map f (flat_map g xs) ≡ []
  picked_nowhere g each [] = refl
  picked_nowhere g each (a ∷ xs) =
      filter_map-append f (g a) (flat_map g xs) ∙ ap (λ l. l ++ filter_map f (flat_map g xs)) (each a) ∙ picked_nowhere g each xs

mapped_itself : {A : Type 0} (xs : List A) → map (λ (a : A). a) xs ≡ xs
mapped_itself [] = refl
mapped_itself (a ∷ xs) = ap (λ l. a ∷ l) (mapped_itself xs)

-- ---- parts of the items of a state

-- what one kind of things is picked by, part by part
record Picks {C : Type 0} (f : Item → Option C) (m : State) : Type 0 where
  singles : List C
  channels : List C
  indexes : List C
  spots : List C
  numbers : List C
  singles_are : filter_map f (single_items m) ≡ singles
  channels_are : filter_map f (map life_item m.channels) ≡ channels
  indexes_are : filter_map f (flat_map index_items m.catalog.indexes) ≡ indexes
  spots_are : filter_map f (map items.Spot m.spots) ≡ spots
  numbers_are : filter_map f (map number_item m.catalog.indexes) ≡ numbers

picked_state : {C : Type 0} (f : Item → Option C) (m : State) (p : Picks f m) →
    filter_map f (state_items m) ≡ p.singles ++ (p.channels ++ (p.indexes ++ (p.spots ++ p.numbers)))
picked_state f m p =
    let spots : List Item = map items.Spot m.spots in
    let numbers : List Item = map number_item m.catalog.indexes in
    let indexes : List Item = flat_map index_items m.catalog.indexes in
    let channels : List Item = map life_item m.channels in
    filter_map-append f (single_items m) (channels ++ (indexes ++ (spots ++ numbers)))
    ∙ ap (λ l. filter_map f (single_items m) ++ l)
    (filter_map-append f channels (indexes ++ (spots ++ numbers))
    ∙ ap (λ l. filter_map f channels ++ l)
    (filter_map-append f indexes (spots ++ numbers)
    ∙ ap (λ l. filter_map f indexes ++ l) (filter_map-append f spots numbers)))
    ∙ (λ i. p.singles_are i ++ (p.channels_are i ++ (p.indexes_are i ++ (p.spots_are i ++ p.numbers_are i))))

-- ---- slots

-- nothing is picked of them
no_slots : {C : Type 0} (f : Item → Option C) → ((index : List ℕ) (b : Bucket) → f (items.Bucket index b) ≡ None) →
    ((e : Entry) → f (items.Ledger e) ≡ None) →
    (index : List ℕ) (s : Slot) → filter_map f (slot_items index s) ≡ []
no_slots f buckets entries index s =
    filter_map-append f (option_to_list (option_map (items.Bucket index) (listed s.standing)))
    (option_to_list (option_map items.Ledger (entered s.standing)))
    ∙ (λ i. first (listed s.standing) i ++ second (entered s.standing) i)
  where
    first : (o : Option Bucket) → filter_map f (option_to_list (option_map (items.Bucket index) o)) ≡ []
    first None = refl
    first (Some b) = ap (λ o. cons_option o []) (buckets index b)

    second : (o : Option Entry) → filter_map f (option_to_list (option_map items.Ledger o)) ≡ []
    second None = refl
    second (Some e) = ap (λ o. cons_option o []) (entries e)

no_indexes : {C : Type 0} (f : Item → Option C) → ((index : List ℕ) (b : Bucket) → f (items.Bucket index b) ≡ None) →
    ((e : Entry) → f (items.Ledger e) ≡ None) →
    (is : List Index) → filter_map f (flat_map index_items is) ≡ []
no_indexes f buckets entries is = picked_nowhere f index_items
    (λ i. picked_nowhere f (slot_items i.name) (no_slots f buckets entries i.name) i.slots) is

-- the bucket of a slot, and its entry
slot_buckets : (index : List ℕ) (s : Slot) →
    filter_map bucket_in (slot_items index s) ≡ map (λ (b : Bucket). record { index = index; bucket = b })
    (option_to_list (listed s.standing))
slot_buckets index s =
    filter_map-append bucket_in (option_to_list (option_map (items.Bucket index) (listed s.standing)))
    (option_to_list (option_map items.Ledger (entered s.standing)))
    ∙ (λ i. first (listed s.standing) i ++ second (entered s.standing) i) ∙ append-nil _
  where
    first : (o : Option Bucket) → filter_map bucket_in (option_to_list (option_map (items.Bucket index) o)) ≡ map
        (λ (b : Bucket). record { index = index; bucket = b }) (option_to_list o)
    first None = refl
    first (Some b) = refl

    second : (o : Option Entry) → filter_map bucket_in (option_to_list (option_map items.Ledger o)) ≡ []
    second None = refl
    second (Some e) = refl

slot_entries : (index : List ℕ) (s : Slot) → filter_map entry_in (slot_items index s) ≡ option_to_list (entered s.standing)
slot_entries index s =
    filter_map-append entry_in (option_to_list (option_map (items.Bucket index) (listed s.standing)))
    (option_to_list (option_map items.Ledger (entered s.standing)))
    ∙ (λ i. first (listed s.standing) i ++ second (entered s.standing) i)
  where
    first : (o : Option Bucket) → filter_map entry_in (option_to_list (option_map (items.Bucket index) o)) ≡ []
    first None = refl
    first (Some b) = refl

    second : (o : Option Entry) → filter_map entry_in (option_to_list (option_map items.Ledger o)) ≡ option_to_list o
    second None = refl
    second (Some e) = refl

map_lists : {A B C : Type 0} (f : B → C) (g : A → List B) (xs : List A) → flat_map (λ (a : A). map f (g a)) xs ≡ map f (flat_map g xs)
map_lists f g [] = refl
map_lists f g (a ∷ xs) = ap (λ l. map f (g a) ++ l) (map_lists f g xs) ∙ sym (map-append f (g a) (flat_map g xs))

index_buckets : (i : Index) → filter_map bucket_in (index_items i) ≡ placed_in i
index_buckets i =
    let made : Bucket → Placed = λ b. record { index = i.name; bucket = b } in
    picked_lists bucket_in (slot_items i.name) (λ (s : Slot). map made (option_to_list (listed s.standing))) (slot_buckets i.name) i.slots
    ∙ map_lists made (λ (s : Slot). option_to_list (listed s.standing)) i.slots

index_entries : (i : Index) → filter_map entry_in (index_items i) ≡ ledger i.slots
index_entries i = picked_lists entry_in (slot_items i.name) (λ (s : Slot). option_to_list (entered s.standing)) (slot_entries i.name)
    i.slots

-- ---- the state

only_one : {A : Type 0} (default value : A) (xs : List A) → xs ≡ value ∷ [] → IsOnly default value xs
only_one default value xs is = record { few = omega (arith, ap length is); value_is = ap (first_or default) is }

-- what stands once
alone : {C : Type 0} (f : Item → Option C) (m : State) → ((l : ChannelHistory) → f (life_item l) ≡ None) →
    ((index : List ℕ) (b : Bucket) → f (items.Bucket index b) ≡ None)
    → ((e : Entry) → f (items.Ledger e) ≡ None) → ((s : Spot) → f (items.Spot s) ≡ None) → ((i : Index) → f (number_item i) ≡ None) →
    filter_map f (state_items m) ≡ filter_map f (single_items m)
alone f m channels buckets entries spots numbers =
    picked_state f m (record {
      singles = filter_map f (single_items m);
      channels = [];
      indexes = [];
      spots = [];
      numbers = [];
      singles_are = refl;
      channels_are = picked_none f life_item channels m.channels;
      indexes_are = no_indexes f buckets entries m.catalog.indexes;
      spots_are = picked_none f items.Spot spots m.spots;
      numbers_are = picked_none f number_item numbers m.catalog.indexes;
    })
    ∙ append-nil (filter_map f (single_items m))

channels_said : (m : State) → filter_map channel_in (state_items m) ≡ map carried_life m.channels
channels_said m =
    picked_state channel_in m (record {
      singles = [];
      channels = map carried_life m.channels;
      indexes = [];
      spots = [];
      numbers = [];
      singles_are = refl;
      channels_are = picked_all channel_in life_item carried_life (λ l. refl) m.channels;
      indexes_are = no_indexes channel_in (λ index b. refl) (λ e. refl) m.catalog.indexes;
      spots_are = picked_none channel_in items.Spot (λ s. refl) m.spots;
      numbers_are = picked_none channel_in number_item (λ i. refl) m.catalog.indexes;
    })
    ∙ append-nil (map carried_life m.channels)

buckets_said : (m : State) → filter_map bucket_in (state_items m) ≡ flat_map placed_in m.catalog.indexes
buckets_said m =
    picked_state bucket_in m (record {
      singles = [];
      channels = [];
      indexes = flat_map placed_in m.catalog.indexes;
      spots = [];
      numbers = [];
      singles_are = refl;
      channels_are = picked_none bucket_in life_item (λ l. refl) m.channels;
      indexes_are = picked_lists bucket_in index_items placed_in index_buckets m.catalog.indexes;
      spots_are = picked_none bucket_in items.Spot (λ s. refl) m.spots;
      numbers_are = picked_none bucket_in number_item (λ i. refl) m.catalog.indexes;
    })
    ∙ append-nil (flat_map placed_in m.catalog.indexes)

entries_said : (m : State) → filter_map entry_in (state_items m) ≡ all_frozen m.catalog.indexes
entries_said m =
    picked_state entry_in m (record {
      singles = [];
      channels = [];
      indexes = all_frozen m.catalog.indexes;
      spots = [];
      numbers = [];
      singles_are = refl;
      channels_are = picked_none entry_in life_item (λ l. refl) m.channels;
      indexes_are = picked_lists entry_in index_items (λ (i : Index). ledger i.slots) index_entries m.catalog.indexes;
      spots_are = picked_none entry_in items.Spot (λ s. refl) m.spots;
      numbers_are = picked_none entry_in number_item (λ i. refl) m.catalog.indexes;
    })
    ∙ append-nil (all_frozen m.catalog.indexes)

spots_said : (m : State) → filter_map spot_in (state_items m) ≡ m.spots
spots_said m =
    picked_state spot_in m (record {
      singles = [];
      channels = [];
      indexes = [];
      spots = m.spots;
      numbers = [];
      singles_are = refl;
      channels_are = picked_none spot_in life_item (λ l. refl) m.channels;
      indexes_are = no_indexes spot_in (λ index b. refl) (λ e. refl) m.catalog.indexes;
      spots_are = picked_all spot_in items.Spot (λ (s : Spot). s) (λ s. refl) m.spots ∙ mapped_itself m.spots;
      numbers_are = picked_none spot_in number_item (λ i. refl) m.catalog.indexes;
    })
    ∙ append-nil m.spots

numbers_said : (m : State) → filter_map index_in (state_items m) ≡ map index_name m.catalog.indexes
numbers_said m =
    picked_state index_in m (record {
      singles = [];
      channels = [];
      indexes = [];
      spots = [];
      numbers = map index_name m.catalog.indexes;
      singles_are = refl;
      channels_are = picked_none index_in life_item (λ l. refl) m.channels;
      indexes_are = no_indexes index_in (λ index b. refl) (λ e. refl) m.catalog.indexes;
      spots_are = picked_none index_in items.Spot (λ s. refl) m.spots;
      numbers_are = picked_all index_in number_item index_name (λ i. refl) m.catalog.indexes;
    })

state_says : (m : State) → SaysAll m (state_items m)
state_says m = record {
  settings = only_one [] m.force _ (alone settings_in m (λ l. refl) (λ index b. refl) (λ e. refl) (λ s. refl) (λ i. refl));
  moments = only_one (pos 0, pos 0) (m.last, m.tick) _ (alone moments_in m (λ l. refl) (λ index b. refl) (λ e. refl) (λ s. refl)
      (λ i. refl));
  counts = only_one no_counts (counted m.catalog.counts) _
      (alone counts_in m (λ l. refl) (λ index b. refl) (λ e. refl) (λ s. refl) (λ i. refl));
  next_file = only_one 1 m.catalog.next_file _ (alone next_file_in m (λ l. refl) (λ index b. refl) (λ e. refl) (λ s. refl) (λ i. refl));
  channels = channels_said m;
  buckets_are = buckets_said m;
  entries = entries_said m;
  spots = spots_said m;
  indexes = numbers_said m;
}

left_says : (choose : Chooser) (history : List TimedCommand) → SaysAll (state_after choose history) (left_items choose history)
left_says choose [] = record {
  settings = record { few = omega arith; value_is = refl };
  moments = record { few = omega arith; value_is = refl };
  counts = record { few = omega arith; value_is = refl };
  next_file = record { few = omega arith; value_is = refl };
  channels = refl;
  buckets_are = refl;
  entries = refl;
  spots = refl;
  indexes = refl;
}
left_says choose (order ∷ history) = state_says (state_after choose (order ∷ history))

-- a run and last removals say nothing of it
with_run : (m : State) (run : ℕ) (removed : Option (List File)) (said : List Item) → SaysAll m said → SaysAll m (all_items run removed said)
with_run m run None said h = record {
  settings = h.settings;
  moments = h.moments;
  counts = h.counts;
  next_file = h.next_file;
  channels = h.channels;
  buckets_are = h.buckets_are;
  entries = h.entries;
  spots = h.spots;
  indexes = h.indexes;
}
with_run m run (Some files) said h = record {
  settings = h.settings;
  moments = h.moments;
  counts = h.counts;
  next_file = h.next_file;
  channels = h.channels;
  buckets_are = h.buckets_are;
  entries = h.entries;
  spots = h.spots;
  indexes = h.indexes;
}

pub all_said : (choose : Chooser) (history : List TimedCommand) (run : ℕ) (removed : Option (List File)) →
    SaysAll (state_after choose history) (all_items run removed (left_items choose history))
all_said choose history run removed = with_run (state_after choose history) run removed (left_items choose history)
    (left_says choose history)
