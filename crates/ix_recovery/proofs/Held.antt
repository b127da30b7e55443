-- What is put of a state in memory is what the state stands as.
use Rattle.std.proofs.Common.{◌≡◌, Bool, true, false, List, [], ◌∷◌, ◌++◌, map, refl, sym, ap, ◌∙◌, subst}
use Rattle.std.specs.List.{AllZip, flat_map}
use Rattle.std.specs.List.Sorted.{IsPermutation}
use Rattle.std.proofs.lemmas.List.Sorted.{IsPermutation-refl, IsPermutation-map, IsPermutation-sym, IsPermutation-trans}
use Rattle.std.proofs.lemmas.List.Sorted.{IsPermutation-append_left, IsPermutation-append_right}
use Rattle.ix_base.specs.declared.events.Spot.{Spot}
use Rattle.ix_manifest.specs.Book.{empty, replay}
use Rattle.ix_items.specs.declared.items.Entry.{Entry}
use Rattle.ix_items.specs.declared.items.Item.{Item}
use Rattle.ix_items.specs.declared.items.Item.TheVariants as items
use Rattle.ix_items.specs.declared.items.Kept.{Kept}
use Rattle.ix_recovery.specs.ListLaws.{CarriesFew}
use Rattle.ix_recovery.specs.Listed.{single_items, life_items, parted_items, left_items}
use Rattle.ix_recovery.proofs.Parted.{items_part}
use Rattle.ix_recovery.proofs.Permuted.{items_lead}
use Rattle.ix_model.specs.Bounds.{bucket_items}
use Rattle.ix_model.specs.Given.{Chooser}
use Rattle.ix_model.specs.Ledger.{all_frozen}
use Rattle.ix_model.specs.State.{State}
use Rattle.ix_model.specs.Step.{state_after}
use Rattle.ix_model.specs.declared.commands.TimedCommand.{TimedCommand}
use Rattle.ix_model.proofs.Ledgers.{all_after, same_entries}
use Rattle.ix_recovery.proofs.Ledgers.{permuted}
use Rattle.ix_catalog.specs.declared.index_table.IndexTable.{IndexTable}
use Rattle.ix_model.specs.Books.{number_item}
use Rattle.ix_model.specs.Shelved.{shelved_indexes}
use Rattle.ix_model.specs.Snap.{snapshot_of}
use Rattle.ix_state.specs.Held.{Holds}
use Rattle.ix_state.specs.declared.state.StoreState.{StoreState}
use Rattle.ix_recovery.specs.Putting.{setting_items, count_items, entry_item, spot_item, view_items, number_items, shelf_items}
use Rattle.ix_recovery.specs.Putting.{memory_items, IsSaid, AreHeld}
use Rattle.ix_recovery.specs.First.{is_first}
use Rattle.ix_recovery.specs.Whole.{kept_items, held_items}
use Rattle.ix_recovery.proofs.Found.{flat_single, buckets_seen, numbers_seen}
use Rattle.ix_recovery.proofs.WholeSaid.{lives_said, lives_few}

false_true : false ≡ true → ⊥
false_true e = cc

-- a store that has accepted nothing has no channels
none_open : (choose : Chooser) (history : List TimedCommand) → is_first history ≡ true → CarriesFew (state_after choose history)
none_open choose [] e = tt
none_open choose (o ∷ history) e = absurd (false_true e)

module _ (choose : Chooser) (history : List TimedCommand) (held : StoreState) (h : Holds choose history held) where
  abbrev m : State
  m = state_after choose history

  abbrev ledger : List Entry
  ledger = held.view.ledger

  settings_are : setting_items held ≡ items.Settings m.force ∷ []
  settings_are = ap (λ (k : List Kept). items.Settings k ∷ []) h.channels.kept

  counts_are : setting_items held ++ count_items held ≡ single_items m
  counts_are j =
      items.Settings (h.channels.kept j)
      ∷ items.Moments (h.storage.last_is j) (h.storage.tick_is j)
      ∷ items.Counts (h.storage.shelves_are j).settled (h.storage.shelves_are j).nulled (h.storage.shelves_are j).dropped
      (h.storage.shelves_are j).placed
      ∷ items.NextFile (h.storage.shelves_are j).next_file ∷ []

  views_are : held.view.indexes ≡ shelved_indexes m.force m.catalog.indexes
  views_are = ap (λ (s : IndexTable). s.indexes) h.storage.shelves_are

  buckets_are : flat_map view_items held.view.indexes ≡ flat_map bucket_items m.catalog.indexes
  buckets_are = ap (flat_map view_items) views_are ∙ buckets_seen choose history m.force ledger h.storage.ledger_is

  entries_are : flat_map entry_item ledger ≡ map items.Ledger ledger
  entries_are = flat_single items.Ledger ledger

  spots_are : flat_map spot_item held.spots.items ≡ map items.Spot m.spots
  spots_are = flat_single items.Spot held.spots.items ∙ ap (λ (s : List Spot). map items.Spot s) h.channels.spots

  numbers_are : flat_map (number_items ledger) held.view.indexes ≡ map number_item m.catalog.indexes
  numbers_are = ap (flat_map (number_items ledger)) views_are ∙ numbers_seen choose history m.force ledger h.storage.ledger_is

  shelves_are : shelf_items held ≡ flat_map bucket_items m.catalog.indexes
      ++ (map items.Ledger ledger ++ (map items.Spot m.spots ++ map number_item m.catalog.indexes))
  shelves_are j = buckets_are j ++ (entries_are j ++ (spots_are j ++ numbers_are j))

  all_are : (fresh : Bool) (channels : List Item) → (fresh ≡ false → channels ≡ life_items m) →
      memory_items fresh held channels ≡ held_items fresh m ledger
  all_are true channels e = settings_are
  all_are false channels e = let lives = e refl in (λ j. counts_are j ++ (lives j ++ shelves_are j))

  pub held_are : (fresh : Bool) (list : List Item) → AreHeld fresh held list → list ≡ held_items fresh m ledger
  held_are fresh list a =
      a.are ∙ all_are fresh a.channels (λ f. lives_said m.channels held.channels.items a.channels h.channels.channels (a.said f))

  few : (fresh : Bool) (channels : List Item) → is_first history ≡ fresh → (fresh ≡ false → AllZip IsSaid held.channels.items channels) →
      CarriesFew m
  few true channels first said = none_open choose history first
  few false channels first said = lives_few m.channels held.channels.items channels h.channels.channels (said refl)

  pub held_few : (fresh : Bool) (list : List Item) → is_first history ≡ fresh → AreHeld fresh held list → CarriesFew m
  held_few fresh list first a = few fresh a.channels first a.said

-- ---- in another order

pub entries_moved : (choose : Chooser) (history : List TimedCommand) (ledger : List Entry) →
    IsPermutation ledger (state_after choose history).catalog.ledger →
    IsPermutation (all_frozen (state_after choose history).catalog.indexes) ledger
entries_moved choose history ledger moved =
    let s = (state_after choose history).catalog in
    IsPermutation-trans (all_frozen s.indexes) s.ledger ledger
    (IsPermutation-sym s.ledger (all_frozen s.indexes) (permuted s.ledger (all_frozen s.indexes)
    (same_entries s (all_after choose history))))
    (IsPermutation-sym ledger s.ledger moved)

kept_moved : (m : State) (ledger : List Entry) → IsPermutation (all_frozen m.catalog.indexes) ledger →
    IsPermutation (parted_items m) (kept_items m ledger)
kept_moved m ledger moved =
    IsPermutation-append_right (single_items m) _ _
    (IsPermutation-append_right (life_items m) _ _
    (IsPermutation-append_right (flat_map bucket_items m.catalog.indexes) _ _
    (IsPermutation-append_left (map items.Spot m.spots ++ map number_item m.catalog.indexes) _ _
    (IsPermutation-map items.Ledger (all_frozen m.catalog.indexes) ledger moved))))

pub held_moved : (choose : Chooser) (history : List TimedCommand) (entries : List Entry) →
    IsPermutation entries (state_after choose history).catalog.ledger →
    IsPermutation (left_items choose history) (held_items (is_first history) (state_after choose history) entries)
held_moved choose [] _ moved = IsPermutation-refl (items.Settings [] ∷ [])
held_moved choose (o ∷ history) entries moved =
    let m : State = state_after choose (o ∷ history) in
    IsPermutation-trans (left_items choose (o ∷ history)) (parted_items m) (kept_items m entries) (items_part m)
    (kept_moved m entries (entries_moved choose (o ∷ history) entries moved))

pub held_leads : (choose : Chooser) (history : List TimedCommand) (held : StoreState) (fresh : Bool) (list : List Item) →
    Holds choose history held → is_first history ≡ fresh →
    list ≡ held_items fresh (state_after choose history) held.view.ledger → IsPermutation (left_items choose history) list
held_leads choose history held fresh list h first is =
    subst (IsPermutation (left_items choose history))
    (ap (λ (b : Bool). held_items b (state_after choose history) held.view.ledger) first ∙ sym is)
    (held_moved choose history held.view.ledger h.storage.ledger_is)

pub replayed : (choose : Chooser) (history : List TimedCommand) (list : List Item) → IsPermutation (left_items choose history) list →
    replay list empty ≡ (snapshot_of choose history).book
replayed choose history list moved = items_lead choose history list moved
