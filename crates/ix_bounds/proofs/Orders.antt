-- Of a ledger only counts and sums of its entries matter, so that their order does not.
use Rattle.std.proofs.Common.{◌≡◌, ℕ, ◌+◌, ℤ, Bool, List, [], ◌∷◌, ◌++◌, length, map, refl, sym, ap, ◌∙◌}
use Rattle.std.specs.Prelude.{Option, Some, None, ◌||◌, if◌then◌else◌, fold}
use Rattle.std.specs.List.{count_by, flat_map, list_any, sum_by}
use Rattle.std.specs.List.Sorted.{IsPermutation}
use Rattle.std.proofs.lemmas.List.Sorted.{list_any-IsPermutation, sum_by-IsPermutation}
use Rattle.ix_base.specs.declared.events.Event.{Event}
use Rattle.ix_base.specs.declared.events.Routed.{Routed}
use Rattle.ix_base.specs.declared.events.Routed.TheVariants.{To, Null}
use Rattle.ix_items.specs.Spelling.{item_bytes, body_bytes}
use Rattle.ix_items.specs.declared.items.Bucket.{Bucket}
use Rattle.ix_items.specs.declared.items.Entry.{Entry}
use Rattle.ix_items.specs.declared.items.Item.{Item}
use Rattle.ix_items.specs.declared.items.Item.TheVariants as items
use Rattle.ix_bounds.specs.LedgerLaws.{IsAsMuch}
use Rattle.ix_life.specs.declared.sets.LimitSet.{LimitSet}
use Rattle.ix_life.specs.declared.views.IndexView.{IndexView}
use Rattle.ix_catalog.specs.Buckets.{named}
use Rattle.ix_catalog.specs.Changes as changes
use Rattle.ix_catalog.specs.Dealing.{home, placed, is_fresh, piece, joined, filled, one_placed, one_dropped, put_in, deal_to, deal}
use Rattle.ix_catalog.specs.Dealing.{deal_all}
use Rattle.ix_catalog.specs.Lists.{find, change}
use Rattle.ix_catalog.specs.Measures.{bytes_in, events_in, has_some, index_items, shelf_items, shelf_size}
use Rattle.ix_catalog.specs.Shelves.{is_live, is_of, next_number, view_name, with_buckets, buckets_in}
use Rattle.ix_catalog.specs.declared.placer.Work.{Work}
use Rattle.ix_catalog.specs.declared.index_table.IndexTable.{IndexTable}
use Rattle.ix_catalog.proofs.Sizes.{size_behind, entries_size}

module _ (ledger other : List Entry) (h : IsPermutation ledger other) where
  counts_same : (p : Entry → Bool) → count_by p ledger ≡ count_by p other
  counts_same p = sym (sum_by-IsPermutation (λ (e : Entry). if p e then 1 else 0) ledger other h)

  pub number_same : (index : List ℕ) (bs : List Bucket) → next_number index bs ledger ≡ next_number index bs other
  number_same index bs = ap (λ (n : ℕ). count_by is_live bs + n) (counts_same (is_of index))

  -- ---- events that are placed

  filled_same : (moment : ℤ) (file used : ℕ) (event : Event) → filled ledger moment file used event ≡ filled other moment file used event
  filled_same moment file used event = λ i v. with_buckets
      (placed v.limits (number_same v.name v.buckets i) file event used moment v.buckets) v

  one_same : (moment : ℤ) (event : Event) (v : IndexView) (s : IndexTable) →
      one_placed ledger moment event v s ≡ one_placed other moment event v s
  one_same moment event v s = λ i. record {
    indexes = change view_name v.name (filled_same moment s.next_file (s.placed + 1) event i) s.indexes;
    settled = s.settled + 1;
    nulled = s.nulled;
    dropped = s.dropped;
    placed = s.placed + 1;
    next_file = if is_fresh v.limits event v.buckets then s.next_file + 1 else s.next_file;
  }

  put_same : (moment : ℤ) (event : Event) (v : Option IndexView) (w : Work) → put_in ledger moment event v w ≡ put_in other moment event v w
  put_same moment event None w = refl
  put_same moment event (Some v) w = λ i. record {
    shelves = one_same moment event v w.shelves i;
    pieces = joined (piece v.limits w.shelves.next_file event v.buckets) w.pieces;
  }

  to_same : (moment : ℤ) (event : Event) (name : Option (List ℕ)) (w : Work) →
      deal_to ledger moment event name w ≡ deal_to other moment event name w
  to_same moment event None w = refl
  to_same moment event (Some name) w = put_same moment (named name event) (find view_name name w.shelves.indexes) w

  deal_same : (set : LimitSet) (moment : ℤ) (w : Work) (o : Routed) → deal set ledger moment w o ≡ deal set other moment w o
  deal_same set moment w (To event) = to_same moment event (home set event.index) w
  deal_same set moment w Null = refl

  pub deals_same : (set : LimitSet) (moment : ℤ) (w : Work) (outcomes : List Routed) →
      deal_all set ledger moment w outcomes ≡ deal_all set other moment w outcomes
  deals_same set moment w outcomes = λ i. fold (λ (x : Work) (o : Routed). deal_same set moment x o i) w outcomes

  -- ---- what changed

  index_same : (old : List IndexView) (v : IndexView) → changes.index_changes ledger old v ≡ changes.index_changes other old v
  index_same old v =
      ap (λ (n : ℕ). changes.with_number v.name n (changes.changed v.name (buckets_in v.name old) v.buckets)) (number_same v.name v.buckets)

  pub changes_same : (more : List Entry) (old new : IndexTable) → changes.changes ledger more old new ≡ changes.changes other more old new
  changes_same more old new = λ i. flat_map (λ (v : IndexView). index_same old.indexes v i) new.indexes ++ map items.Ledger more
      ++ changes.numbers new

  -- ---- measures

  items_same : (v : IndexView) → index_items ledger v ≡ index_items other v
  items_same v =
      ap (λ (n : ℕ). map (items.Bucket v.name) v.buckets
      ++ (if has_some v.buckets || list_any (is_of v.name) ledger then items.NextId v.name n ∷ [] else []))
      (number_same v.name v.buckets)
      ∙ ap (λ (b : Bool). map (items.Bucket v.name) v.buckets
      ++ (if has_some v.buckets || b then items.NextId v.name (next_number v.name v.buckets other) ∷ [] else []))
      (list_any-IsPermutation (is_of v.name) ledger other h)

  entries_same : length (body_bytes (map items.Ledger ledger)) ≡ length (body_bytes (map items.Ledger other))
  entries_same = entries_size ledger ∙ (sym (sum_by-IsPermutation (λ (e : Entry). length (item_bytes (items.Ledger e))) ledger other h)
      ∙ sym (entries_size other))

  size_same : (s : IndexTable) → shelf_size ledger s ≡ shelf_size other s
  size_same s =
      size_behind (flat_map (index_items ledger) s.indexes) (map items.Ledger ledger)
      ∙ (ap (λ (n : ℕ). length (body_bytes (flat_map (index_items ledger) s.indexes)) + n) entries_same
      ∙ (ap (λ (f : IndexView → List Item). length (body_bytes (flat_map f s.indexes)) + length (body_bytes (map items.Ledger other)))
      (λ i v. items_same v i)
      ∙ sym (size_behind (flat_map (index_items other) s.indexes) (map items.Ledger other))))

  pub measures_same : (s : IndexTable) → IsAsMuch ledger other s
  measures_same s = record {
    bytes = ap (λ (n : ℕ). sum_by bytes_in s.indexes + n) (sym (sum_by-IsPermutation (λ (e : Entry). e.bytes) ledger other h));
    events = ap (λ (n : ℕ). sum_by events_in s.indexes + n) (sym (sum_by-IsPermutation (λ (e : Entry). e.count) ledger other h));
    size = size_same s;
  }
