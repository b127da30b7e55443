-- The indexes of a store as it keeps them in memory: buckets without their events.
use Rattle.std.specs.Prelude.{◌==◌, ◌+◌, ℕ, Bool, true, false, if◌then◌else◌, List, [], ◌∷◌, map, Option, Some, None, bytes_eq}
use Rattle.std.specs.List.{count_by}
use Rattle.ix_items.specs.declared.items.Bucket.{Bucket}
use Rattle.ix_items.specs.declared.items.Entry.{Entry}
use Rattle.ix_items.specs.declared.items.State.{State}
use Rattle.ix_items.specs.declared.items.State.TheVariants.{Hot, Quarantine, Warm, Cold, Thawed}
use Rattle.ix_life.specs.declared.views.IndexView.{IndexView}
use Rattle.ix_catalog.specs.Lists.{find}
use Rattle.ix_catalog.specs.declared.index_table.IndexTable.{IndexTable}

-- ---- buckets by their numbers

abbrev pub has_id : ℕ → Bucket → Bool
has_id id b = b.id == id

-- the bucket of this number
abbrev pub by_id : ℕ → List Bucket → Option Bucket
by_id id [] = None
by_id id (b ∷ bs) = if has_id id b then Some b else by_id id bs

-- with f of the bucket of this number
abbrev pub change_id : ℕ → (Bucket → Bucket) → List Bucket → List Bucket
change_id id f bs = map (λ b. if has_id id b then f b else b) bs

-- a thawed bucket is one that was frozen, and stands in the ledger too
abbrev pub is_live_in : State → Bool
is_live_in Hot = true
is_live_in Quarantine = true
is_live_in Warm = true
is_live_in Cold = true
is_live_in Thawed = false

abbrev pub is_live : Bucket → Bool
is_live b = is_live_in b.state

abbrev pub is_of : List ℕ → Entry → Bool
is_of index e = bytes_eq e.index index

-- the number of an index's next bucket: so many buckets it has had, of which each is live or stands
-- in the ledger
abbrev pub next_number : List ℕ → List Bucket → List Entry → ℕ
next_number index bs ledger = count_by is_live bs + count_by (is_of index) ledger

-- ---- indexes by their names

abbrev pub view_name : IndexView → List ℕ
view_name v = v.name

-- an index with other buckets
abbrev pub with_buckets : List Bucket → IndexView → IndexView
with_buckets bs v = record { name = v.name; limits = v.limits; buckets = bs }

-- the buckets of the index of this name, none where there is no such index
abbrev pub buckets_of : Option IndexView → List Bucket
buckets_of None = []
buckets_of (Some v) = v.buckets

abbrev pub buckets_in : List ℕ → List IndexView → List Bucket
buckets_in name indexes = buckets_of (find view_name name indexes)

-- other indexes and another number of the next file
abbrev pub with_indexes : List IndexView → ℕ → IndexTable → IndexTable
with_indexes indexes next_file s = record {
  indexes = indexes;
  settled = s.settled;
  nulled = s.nulled;
  dropped = s.dropped;
  placed = s.placed;
  next_file = next_file;
}
