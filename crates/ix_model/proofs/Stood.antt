-- What stands in the book of a history, and the laws of the machine that the changes of shelves
-- stand on.
use Rattle.std.proofs.Common.{◌≡◌, ℕ, Bool, List, [], ◌∷◌, ◌++◌, map, length, drop, refl, sym, ap, ◌∙◌, arith, subst}
use Rattle.std.specs.Prelude.{Option, Some, None, unwrap_or, slice_get, fold}
use Rattle.std.specs.List.{AllByRecursion}
use Rattle.std.specs.Option.{option_map}
use Rattle.std.specs.declared.cmp.Ordering.TheVariants.{Less}
use Rattle.std.specs.Ordering.{nat_cmp}
use Rattle.std.specs.Cmp.Lexicographic.{slice_cmp}
use Rattle.std.proofs.lemmas.List.{drop_at}
use Rattle.ix_manifest.specs.Book.{NamedItems, named}
use Rattle.ix_items.specs.declared.items.Item.TheVariants as items
use Rattle.ix_items.specs.declared.items.Bucket.{Bucket}
use Rattle.ix_items.specs.declared.items.Entry.{Entry}
use Rattle.ix_items.specs.declared.items.Kept.{Kept}
use Rattle.ix_life.specs.declared.views.IndexView.{IndexView}
use Rattle.ix_model.specs.Buckets.{Slot, Index, buckets}
use Rattle.ix_model.specs.Followed.{AreFollowed}
use Rattle.ix_model.specs.Given.{Chooser}
use Rattle.ix_model.specs.Shown.{configured, with_fresh, index_view}
use Rattle.ix_model.specs.State.{State, index_name, fresh_index, slots_in, empty}
use Rattle.ix_model.specs.Step.{step, state_after}
use Rattle.ix_model.specs.Sums.{AreSoundFrom, IsSound}
use Rattle.ix_model.specs.declared.commands.TimedCommand.{TimedCommand}
use Rattle.ix_model.proofs.Following.{after_more, followed_after}
use Rattle.ix_model.proofs.Ledgers.{sound_or_fresh, grows_after}
use Rattle.ix_model.proofs.Stepping.{sound_after}
use Rattle.ix_catalog.specs.Changes.{stood, AllStand, NamesDiffer, KeepsIndexes}
use Rattle.ix_catalog.specs.Lists.{find, AreAscending}
use Rattle.ix_catalog.specs.Shelves.{by_id, view_name, buckets_in}
use Rattle.ix_catalog.proofs.Finding.{ascending_differ}
use Rattle.ix_model.specs.Books.{listed_at, bucket_in, entry_in, number_item}
use Rattle.ix_model.specs.Said.{new_entries}
use Rattle.ix_model.specs.Shelved.{shelved_indexes}
use Rattle.ix_model.specs.Snap.{snapshot_of, snap}
use Rattle.ix_model.proofs.DealtShelves.{its_name}
use Rattle.ix_model.proofs.Listing.{among, or_fresh, ascending_fresh}
use Rattle.ix_model.proofs.Rising.{by_place, seen_by, seen_buckets}

none_some : {X : Type 0} {x : X} → None ≡ Some x → ⊥
none_some e = cc

-- ---- one command more

pub left_more : (choose : Chooser) (history : List TimedCommand) (order : TimedCommand) →
    snapshot_of choose (history ++ order ∷ []) ≡ snap (state_after choose (history ++ order ∷ []))
left_more choose [] order = refl
left_more choose (o ∷ history) order = refl

pub after_push : (choose : Chooser) (history : List TimedCommand) (order : TimedCommand) →
    state_after choose (history ++ order ∷ []) ≡ step choose (state_after choose history) order
after_push choose history order = after_more choose empty history (order ∷ [])

-- ---- under names of buckets, of the ledger and of numbers

pub left_buckets : (choose : Chooser) (history : List TimedCommand) (index : List ℕ) (id : ℕ) →
    (snapshot_of choose history).book (named 6 index id) ≡ option_map (items.Bucket index) (bucket_in (state_after choose history) index id)
left_buckets choose [] index id = refl
left_buckets choose (o ∷ history) index id = refl

pub left_entries : (choose : Chooser) (history : List TimedCommand) (index : List ℕ) (id : ℕ) →
    (snapshot_of choose history).book (named 8 index id) ≡ option_map items.Ledger (entry_in (state_after choose history) index id)
left_entries choose [] index id = refl
left_entries choose (o ∷ history) index id = refl

pub left_numbers : (choose : Chooser) (history : List TimedCommand) (index : List ℕ) →
    (snapshot_of choose history).book (named 13 index 0) ≡ option_map number_item
    (find index_name index (state_after choose history).catalog.indexes)
left_numbers choose [] index = refl
left_numbers choose (o ∷ history) index = refl

-- ---- what the changes of shelves stand on

pub sound_in : (is : List Index) (name : List ℕ) → AllByRecursion IsSound is → AreSoundFrom name 0 (slots_in is name)
sound_in is name h = subst (λ (n : List ℕ). AreSoundFrom n 0 (slots_in is name)) (its_name is name)
    (sound_or_fresh name is (find index_name name is) h refl)

pub all_stand : (force : List Kept) (is : List Index) (book : NamedItems) → AllByRecursion IsSound is →
    ((name : List ℕ) (id : ℕ) → book (named 6 name id) ≡ option_map (items.Bucket name) (listed_at (slice_get (slots_in is name) id))) →
    AllStand (shelved_indexes force is) book
all_stand force is book sound stands name id =
    stands name id
    ∙ ap (option_map (items.Bucket name)) (sym (by_place name id 0 id (slots_in is name) (sound_in is name sound) (omega arith)))
    ∙ ap (λ (bs : List Bucket). option_map (items.Bucket name) (by_id id bs)) (sym (seen_buckets force is name))
    ∙ by (by_id id (buckets_in name (shelved_indexes force is)))
  where
    by : (o : Option Bucket) → option_map (items.Bucket name) o ≡ stood name o
    by None = refl
    by (Some b) = refl

pub left_stand : (choose : Chooser) (history : List TimedCommand) (force : List Kept) →
    AllStand (shelved_indexes force (state_after choose history).catalog.indexes) (snapshot_of choose history).book
left_stand choose history force =
    all_stand force (state_after choose history).catalog.indexes (snapshot_of choose history).book (sound_after choose history)
    (left_buckets choose history)

map_behind : (force : List Kept) (name : List ℕ) (is : List Index) →
    AllByRecursion (λ (y : Index). slice_cmp nat_cmp name y.name ≡ Less) is →
    AllByRecursion (λ (y : IndexView). slice_cmp nat_cmp name y.name ≡ Less) (map (index_view force) is)
map_behind force name [] h = tt
map_behind force name (i ∷ is) h = (h.0, map_behind force name is h.1)

map_ascends : (force : List Kept) (is : List Index) → AreAscending index_name is → AreAscending view_name (map (index_view force) is)
map_ascends force [] h = tt
map_ascends force (i ∷ is) h = (map_behind force i.name is h.0, map_ascends force is h.1)

pub seen_differ : (force : List Kept) (is : List Index) → AreAscending index_name is → NamesDiffer (shelved_indexes force is)
seen_differ force is h =
    ascending_differ (shelved_indexes force is) (map_ascends force (fold with_fresh is (configured force))
    (ascending_fresh (configured force) is h))

-- ---- what follows

pub followed : (choose : Chooser) (history more : List TimedCommand) (name : List ℕ) →
    AreFollowed (slots_in (state_after choose history).catalog.indexes name)
    (slots_in (state_after choose (history ++ more)).catalog.indexes name)
followed choose history more name =
    subst (λ (m : State). AreFollowed (slots_in (state_after choose history).catalog.indexes name) (slots_in m.catalog.indexes name))
    (sym (after_more choose empty history more))
    (followed_after choose (state_after choose history) more name (sound_after choose history))

pub none_follow : (slots later : List Slot) → AreFollowed slots later → later ≡ [] → slots ≡ []
none_follow [] later h e = refl
none_follow (s ∷ slots) [] h e = absurd h
none_follow (s ∷ slots) (t ∷ later) h e = absurd (nil e)
  where
    nil : t ∷ later ≡ [] → ⊥
    nil q = cc

-- an index that is not seen has no buckets
not_seen : (force : List Kept) (is : List Index) (name : List ℕ) → find view_name name (shelved_indexes force is) ≡ None →
    slots_in is name ≡ []
not_seen force is name e = by (among (configured force) name) (find index_name name is) (sym (seen_by force is name) ∙ e)
  where
    by : (b : Bool) (o : Option Index) → option_map (index_view force) (or_fresh b name o) ≡ None →
        (unwrap_or o (fresh_index name)).slots ≡ []
    by b None k = refl
    by b (Some i) k = absurd (none_some (sym k))

pub keeps_indexes : (choose : Chooser) (history more : List TimedCommand) (old new : List Kept) →
    KeepsIndexes (shelved_indexes old (state_after choose history).catalog.indexes)
    (shelved_indexes new (state_after choose (history ++ more)).catalog.indexes)
keeps_indexes choose history more old new name e =
    seen_buckets old (state_after choose history).catalog.indexes name
    ∙ ap buckets (none_follow _ _ (followed choose history more name)
    (not_seen new (state_after choose (history ++ more)).catalog.indexes name e))

-- the ledger grows by the new entries
pub ledger_grows : (choose : Chooser) (history more : List TimedCommand) →
    (state_after choose (history ++ more)).catalog.ledger ≡ (state_after choose history).catalog.ledger
    ++ new_entries (state_after choose history) (state_after choose (history ++ more))
ledger_grows choose history more =
    let m : State = state_after choose history in
    let later : State = state_after choose (history ++ more) in
    let g = grows_after choose m more in
    let whole : later.catalog.ledger ≡ m.catalog.ledger ++ g.0 = ap (λ (x : State). x.catalog.ledger) (after_more choose empty history more)
    ∙ g.1 in
    let rest : drop (length m.catalog.ledger) later.catalog.ledger ≡ g.0 =
    ap (drop (length m.catalog.ledger)) whole ∙ drop_at m.catalog.ledger g.0 (length m.catalog.ledger) refl in
    whole ∙ ap (λ (l : List Entry). m.catalog.ledger ++ l) (sym rest)
