-- Events are dealt on the shelves as the machine deals them.
use Rattle.std.proofs.Common.{◌≡◌, ℕ, ◌+◌, ℤ, true, List, [], ◌∷◌, map, refl, sym, ap, ◌∙◌, subst}
use Rattle.std.specs.Prelude.{Option, Some, None, fold, unwrap_or}
use Rattle.std.specs.Option.{option_map}
use Rattle.ix_base.specs.declared.events.Event.{Event}
use Rattle.ix_base.specs.declared.events.Routed.{Routed}
use Rattle.ix_base.specs.declared.events.Routed.TheVariants.{To, Null}
use Rattle.ix_items.specs.declared.items.Bucket.{Bucket}
use Rattle.ix_items.specs.declared.items.Entry.{Entry}
use Rattle.ix_items.specs.declared.items.Kept.{Kept}
use Rattle.ix_life.specs.declared.sets.LimitSet.{LimitSet}
use Rattle.ix_life.specs.declared.views.IndexView.{IndexView}
use Rattle.ix_model.specs.Buckets.{Index, buckets}
use Rattle.ix_model.specs.Given.{limits}
use Rattle.ix_model.specs.Given as given
use Rattle.ix_model.specs.Shown.{configured, with_fresh, index_view}
use Rattle.ix_model.specs.State.{Catalog, index_name, fresh_index, index_in}
use Rattle.ix_model.specs.Step as machine
use Rattle.ix_model.proofs.Ascending.{keeps_ascending}
use Rattle.ix_model.proofs.Ledgers.{HasAll, keeps_all, sound_or_fresh, deal_grows}
use Rattle.ix_catalog.specs.Buckets.{named}
use Rattle.ix_catalog.specs.Dealing.{placed, filled, one_nulled, one_dropped, one_placed, put_in, deal_to, deal, deal_all}
use Rattle.ix_catalog.specs.Lists.{find, change, AreAscending}
use Rattle.ix_catalog.specs.Shelves.{view_name, next_number, with_buckets, with_indexes}
use Rattle.ix_catalog.specs.declared.placer.Work.{Work}
use Rattle.ix_catalog.specs.declared.index_table.IndexTable.{IndexTable}
use Rattle.ix_model.specs.Shelved.{IsSet, shelved_indexes, shelved}
use Rattle.ix_model.proofs.Counting.{next_number_is}
use Rattle.ix_model.proofs.Homes.{home_same, home_listed}
use Rattle.ix_model.proofs.Listing.{among, found_fresh, insert_fresh}
use Rattle.ix_model.proofs.Names.{find_map, change_map, found_name}
use Rattle.ix_model.proofs.SlotPlacing.{placed_same}

some_same : {X : Type 0} {x y : X} → Some x ≡ Some y → x ≡ y
some_same e = cc

pub its_name : (is : List Index) (name : List ℕ) → (index_in is name).name ≡ name
its_name is name = by (find index_name name is) refl
  where
    by : (o : Option Index) → find index_name name is ≡ o → (unwrap_or o (fresh_index name)).name ≡ name
    by None e = refl
    by (Some i) e = found_name index_name name i is e

-- ---- one event

-- the index that an event goes to, with the event
filled_same : (force : List Kept) (moment : ℤ) (s : Catalog) (event : Event) (name : List ℕ) → HasAll s →
    AreAscending index_name s.indexes →
    let i = index_in s.indexes name in
    filled s.ledger moment s.next_file (s.counts.placed + 1) event (index_view force i)
    ≡ index_view force (machine.filled force moment s.next_file (s.counts.placed + 1) event i)
filled_same force moment s event name h l =
    let i = index_in s.indexes name in
    let number = ap (λ (n : List ℕ). next_number n (buckets i.slots) s.ledger) (its_name s.indexes name) ∙ next_number_is s name h l in
    let bound = limits force i.name in
    ap (λ (n : ℕ). with_buckets (placed bound n s.next_file event (s.counts.placed + 1) moment (buckets i.slots)) (index_view force i))
    number
    ∙ ap (λ (bs : List Bucket). with_buckets bs (index_view force i))
    (placed_same i.name bound s.next_file event (s.counts.placed + 1) moment i.slots
    (sound_or_fresh name s.indexes (find index_name name s.indexes) h.sound refl))

indexes_filled : (force : List Kept) (moment : ℤ) (s : Catalog) (event : Event) (name : List ℕ) → HasAll s →
    AreAscending index_name s.indexes → among (configured force) name ≡ true →
    change view_name (index_in s.indexes name).name (filled s.ledger moment s.next_file (s.counts.placed + 1) event)
    (shelved_indexes force s.indexes)
    ≡ shelved_indexes force (machine.put_event force moment s event name).indexes
indexes_filled force moment s event name h l a =
    let f = machine.filled force moment s.next_file (s.counts.placed + 1) event in
    let g = filled s.ledger moment s.next_file (s.counts.placed + 1) event in
    let seen = fold with_fresh s.indexes (configured force) in
    ap (λ (n : List ℕ). change view_name n g (map (index_view force) seen)) (its_name s.indexes name)
    ∙ change_map index_name view_name (index_view force) (λ i. refl) f g name seen
    (λ i e. subst (λ (j : Index). g (index_view force j) ≡ index_view force (f j))
    (some_same (sym (found_fresh (configured force) s.indexes name a) ∙ e)) (filled_same force moment s event name h l))
    ∙ ap (map (index_view force)) (sym (insert_fresh (configured force) s.indexes name f (λ i. refl) a l))

-- the same counts beside other indexes
abbrev beside : IndexTable → List IndexView → IndexTable
beside s indexes = with_indexes indexes s.next_file s

put_same : (force : List Kept) (moment : ℤ) (s : Catalog) (event : Event) (name : List ℕ) → HasAll s → AreAscending index_name s.indexes →
    among (configured force) name ≡ true →
    one_placed s.ledger moment event (index_view force (index_in s.indexes name)) (shelved force s)
    ≡ shelved force (machine.put_event force moment s event name)
put_same force moment s event name h l a =
    ap (beside (shelved force (machine.put_event force moment s event name))) (indexes_filled force moment s event name h l a)

to_same : (force : List Kept) (set : LimitSet) (moment : ℤ) (s : Catalog) (w : Work) (event : Event) (o : Option (List ℕ)) →
    IsSet force set → HasAll s →
    AreAscending index_name s.indexes → w.shelves ≡ shelved force s → given.home force event.index ≡ o →
    (deal_to s.ledger moment event o w).shelves ≡ shelved force (machine.deal_to force moment s event o)
to_same force set moment s w event None i h l e k = ap one_dropped e
to_same force set moment s w event (Some name) i h l e k =
    let a = home_listed force set event.index name i k in
    let v = index_view force (index_in s.indexes name) in
    let found : find view_name name w.shelves.indexes ≡ Some v =
    ap (λ (x : IndexTable). find view_name name x.indexes) e
    ∙ find_map index_name view_name (index_view force) (λ j. refl) name (fold with_fresh s.indexes (configured force))
    ∙ ap (option_map (index_view force)) (found_fresh (configured force) s.indexes name a) in
    ap (λ (x : Option IndexView). (put_in s.ledger moment (named name event) x w).shelves) found
    ∙ ap (one_placed s.ledger moment (named name event) v) e
    ∙ put_same force moment s (named name event) name h l a

pub deal_same : (force : List Kept) (set : LimitSet) (moment : ℤ) (s : Catalog) (w : Work) (o : Routed) → IsSet force set → HasAll s →
    AreAscending index_name s.indexes → w.shelves ≡ shelved force s →
    (deal set s.ledger moment w o).shelves ≡ shelved force (machine.deal force moment s o)
deal_same force set moment s w (To event) i h l e =
    ap (λ (x : Option (List ℕ)). (deal_to s.ledger moment event x w).shelves) (home_same force set event.index i)
    ∙ to_same force set moment s w event (given.home force event.index) i h l e refl
deal_same force set moment s w Null i h l e = ap one_nulled e

-- ---- all events

pub deals_same : (force : List Kept) (set : LimitSet) (moment : ℤ) (ledger : List Entry) (s : Catalog) (w : Work) (os : List Routed) →
    IsSet force set → HasAll s →
    AreAscending index_name s.indexes → s.ledger ≡ ledger → w.shelves ≡ shelved force s →
    (deal_all set ledger moment w os).shelves ≡ shelved force (machine.deal_all force moment s os)
deals_same force set moment ledger s w [] i h l g e = e
deals_same force set moment ledger s w (o ∷ os) i h l g e =
    deals_same force set moment ledger (machine.deal force moment s o) (deal set ledger moment w o) os i
    (keeps_all.deals force moment s o h) (keeps_ascending.deals force moment s o l) (deal_grows force moment s o ∙ g)
    (subst (λ (es : List Entry). (deal set es moment w o).shelves ≡ shelved force (machine.deal force moment s o)) g
    (deal_same force set moment s w o i h l e))
