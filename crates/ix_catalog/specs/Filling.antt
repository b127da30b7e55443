-- What an event brings to a bucket, to its index, and to the shelves.
use Rattle.std.specs.Prelude.{◌+◌, ◌++◌, ℕ, ℤ, Bool, if◌then◌else◌, List, [], ◌∷◌, Option, Some, None}
use Rattle.std.specs.Int.{int_min, int_max}
use Rattle.ix_base.specs.declared.events.Event.{Event}
use Rattle.ix_base.specs.declared.files.Area.TheVariants as areas
use Rattle.ix_bucket.specs.Record.{event_bytes}
use Rattle.ix_items.specs.declared.items.Bucket.{Bucket}
use Rattle.ix_items.specs.declared.items.Entry.{Entry}
use Rattle.ix_commit.specs.declared.write_batch.Append.{Append}
use Rattle.ix_life.specs.declared.limits.Limits.{Limits}
use Rattle.ix_life.specs.declared.placing.Target.{Target}
use Rattle.ix_life.specs.declared.views.IndexView.{IndexView}
use Rattle.ix_catalog.specs.Buckets.{closed, state_for, with_event}
use Rattle.ix_catalog.specs.Dealing.{roll_id, fresh_bucket, is_fresh, filled, joined, piece}
use Rattle.ix_catalog.specs.Lists.{update}
use Rattle.ix_catalog.specs.Shelves.{has_id, change_id, with_buckets, next_number}
use Rattle.ix_catalog.specs.declared.buckets.Growth.{Growth}
use Rattle.ix_catalog.specs.declared.placer.Work.{Work}
use Rattle.ix_catalog.specs.declared.pieces.FilePlace.{FilePlace}
use Rattle.ix_catalog.specs.declared.index_table.IndexTable.{IndexTable}

-- f of the bucket of a number, and any other as it is
abbrev pub at_id : ℕ → (Bucket → Bucket) → Bucket → Bucket
at_id id f b = if has_id id b then f b else b

-- one more event
abbrev pub with_growth : Growth → Bucket → Bucket
with_growth g b = record {
  id = b.id;
  state = b.state;
  file = b.file;
  bytes = b.bytes + g.size;
  count = b.count + 1;
  newest = int_max b.newest g.time;
  oldest = int_min b.oldest g.time;
  used = g.used;
  touched = g.moment;
}

abbrev pub grown : Limits → Growth → Bucket → Bucket
grown limits g b = closed limits (with_growth g b)

-- a new bucket with one event
abbrev pub begun : Limits → ℕ → Bool → ℕ → Growth → Bucket
begun limits id quarantine file g = closed limits (record {
  id = id;
  state = state_for quarantine;
  file = record { area = areas.Home; number = file };
  bytes = g.size;
  count = 1;
  newest = g.time;
  oldest = g.time;
  used = g.used;
  touched = g.moment;
})

-- the record of an event, for this place of a file
abbrev pub piece_at : FilePlace → Event → Append
piece_at spot event = record { number = spot.number; at = spot.at; bytes = event_bytes event }

-- behind the records of a bucket, or in a new file
abbrev pub spot_of : Option Bucket → ℕ → FilePlace
spot_of None file = record { number = file; at = 0 }
spot_of (Some b) file = record { number = b.file.number; at = b.bytes }

-- what an event of so many bytes brings
abbrev pub growth_of : ℤ → Event → ℕ → ℕ → Growth
growth_of moment event used bytes = record { size = bytes; time = event.time; used = used; moment = moment }

-- ---- an index

-- an event goes into the bucket of a number
abbrev pub fed : ℤ → ℕ → Event → ℕ → IndexView → IndexView
fed moment id event used v = with_buckets (change_id id (λ (b : Bucket). closed v.limits (with_event event used moment b)) v.buckets) v

-- an event goes into a new bucket
abbrev pub opened : List Entry → ℤ → Event → ℕ → ℕ → Target → IndexView → IndexView
opened ledger moment event file used t v = with_buckets (
    roll_id t.rolls v.buckets
    ++ closed v.limits (fresh_bucket (next_number v.name v.buckets ledger) file t.quarantine event used moment) ∷ []) v

-- the number of the next file, once an event is placed in the index
abbrev pub file_behind : ℕ → Event → IndexView → ℕ
file_behind file event v = if is_fresh v.limits event v.buckets then file + 1 else file

-- ---- the shelves

-- one more event is placed, in these indexes
abbrev pub one_more : List IndexView → Bool → IndexTable → IndexTable
one_more indexes fresh s = record {
  indexes = indexes;
  settled = s.settled + 1;
  nulled = s.nulled;
  dropped = s.dropped;
  placed = s.placed + 1;
  next_file = if fresh then s.next_file + 1 else s.next_file;
}

-- an event is placed in the index at a place, which is v
abbrev pub put_there : List Entry → ℤ → Event → ℕ → IndexView → Work → Work
put_there ledger moment event at v w = record {
  shelves = one_more (update at (filled ledger moment w.shelves.next_file (w.shelves.placed + 1) event) w.shelves.indexes)
      (is_fresh v.limits event v.buckets) w.shelves;
  pieces = joined (piece v.limits w.shelves.next_file event v.buckets) w.pieces;
}
