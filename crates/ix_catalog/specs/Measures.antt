-- How much there is on the shelves and in the ledger, for the bounds of what a store can keep.
use Rattle.std.specs.Prelude.{◌+◌, ◌-◌, ◌^◌, min, ◌||◌, ℕ, Bool, true, false, if◌then◌else◌, List, [], ◌∷◌, ◌++◌, length, map}
use Rattle.std.specs.List.{flat_map, sum_by, list_any}
use Rattle.ix_items.specs.Spelling.{body_bytes}
use Rattle.ix_items.specs.declared.items.Bucket.{Bucket}
use Rattle.ix_items.specs.declared.items.Entry.{Entry}
use Rattle.ix_items.specs.declared.items.Item.{Item}
use Rattle.ix_items.specs.declared.items.Item.TheVariants as items
use Rattle.ix_life.specs.declared.views.IndexView.{IndexView}
use Rattle.ix_catalog.specs.Shelves.{is_of, next_number}
use Rattle.ix_catalog.specs.declared.index_table.IndexTable.{IndexTable}

-- a number up to the largest of 128 bits, which stands for all above it
abbrev pub capped : ℕ → ℕ
capped n = min n (2 ^ 128 - 1)

-- the bytes of all buckets and entries, and their events
abbrev pub bytes_in : IndexView → ℕ
bytes_in v = sum_by (λ (b : Bucket). b.bytes) v.buckets

abbrev pub events_in : IndexView → ℕ
events_in v = sum_by (λ (b : Bucket). b.count) v.buckets

abbrev pub all_bytes : List Entry → IndexTable → ℕ
all_bytes ledger s = sum_by bytes_in s.indexes + sum_by (λ (e : Entry). e.bytes) ledger

abbrev pub all_events : List Entry → IndexTable → ℕ
all_events ledger s = sum_by events_in s.indexes + sum_by (λ (e : Entry). e.count) ledger

abbrev pub has_some : List Bucket → Bool
has_some [] = false
has_some (b ∷ bs) = true

-- an index that has had a bucket
abbrev pub has_number : List Entry → IndexView → Bool
has_number ledger v = has_some v.buckets || list_any (is_of v.name) ledger

-- the items that shelves and ledger are written as
abbrev pub index_items : List Entry → IndexView → List Item
index_items ledger v =
    map (items.Bucket v.name) v.buckets
    ++ (if has_number ledger v then items.NextId v.name (next_number v.name v.buckets ledger) ∷ [] else [])

abbrev pub shelf_items : List Entry → IndexTable → List Item
shelf_items ledger s = flat_map (index_items ledger) s.indexes ++ map items.Ledger ledger

-- how many bytes these have
abbrev pub shelf_size : List Entry → IndexTable → ℕ
shelf_size ledger s = length (body_bytes (shelf_items ledger s))
