-- Events are placed: what an outcome does to the shelves, and the bytes that it adds to a file.
use Rattle.std.specs.Prelude.{◌+◌, ◌==◌, ℕ, ℤ, Bool, if◌then◌else◌, List, [], ◌∷◌, ◌++◌, fold, Option, Some, None, is_none}
use Rattle.ix_base.specs.declared.events.Event.{Event}
use Rattle.ix_base.specs.declared.events.Routed.{Routed}
use Rattle.ix_base.specs.declared.events.Routed.TheVariants.{To, Null}
use Rattle.ix_bucket.specs.Record.{event_bytes}
use Rattle.ix_items.specs.declared.items.Bucket.{Bucket}
use Rattle.ix_items.specs.declared.items.Entry.{Entry}
use Rattle.ix_commit.specs.declared.write_batch.Append.{Append}
use Rattle.ix_life.specs.Limits.{route}
use Rattle.ix_life.specs.Placing.{target}
use Rattle.ix_life.specs.declared.limits.Limits.{Limits}
use Rattle.ix_life.specs.declared.sets.LimitSet.{LimitSet}
use Rattle.ix_life.specs.declared.sets.Route.{Route}
use Rattle.ix_life.specs.declared.sets.Route.TheVariants.{Given, LastChance, Nowhere}
use Rattle.ix_life.specs.declared.views.IndexView.{IndexView}
use Rattle.ix_catalog.specs.Buckets.{rolled, with_event, made, closed, state_for, named}
use Rattle.ix_catalog.specs.Lists.{find, change}
use Rattle.ix_catalog.specs.Shelves.{by_id, change_id, next_number, view_name, with_buckets}
use Rattle.ix_catalog.specs.declared.placer.Work.{Work}
use Rattle.ix_catalog.specs.declared.index_table.IndexTable.{IndexTable}

-- ---- where events go

abbrev pub home_by : Route → LimitSet → List ℕ → Option (List ℕ)
home_by Given set index = Some index
home_by LastChance set index = set.last_chance
home_by Nowhere set index = None

-- the index that an event of this index goes to, by a set of limits
abbrev pub home : LimitSet → List ℕ → Option (List ℕ)
home set index = home_by (route set index) set index

-- ---- the buckets of an index

-- the one that makes room rolls
abbrev pub roll_id : Option ℕ → List Bucket → List Bucket
roll_id None bs = bs
roll_id (Some id) bs = change_id id rolled bs

-- into the bucket of this number, or else into a new one behind the others
abbrev pub put_into : Limits → Option ℕ → Bucket → Event → ℕ → ℤ → List Bucket → List Bucket
put_into limits (Some id) fresh event used moment bs = change_id id (λ (b : Bucket). closed limits (with_event event used moment b)) bs
put_into limits None fresh event used moment bs = bs ++ closed limits fresh ∷ []

-- the bucket that an event makes, where it makes one
abbrev pub fresh_bucket : ℕ → ℕ → Bool → Event → ℕ → ℤ → Bucket
fresh_bucket id file quarantine event used moment = made id (state_for quarantine) file event used moment

-- the buckets once the event is placed, the `used`-th that the store has placed
abbrev pub placed : Limits → ℕ → ℕ → Event → ℕ → ℤ → List Bucket → List Bucket
placed limits id file event used moment bs =
    let t = target bs limits event.time event.arrival in
    put_into limits t.into (fresh_bucket id file t.quarantine event used moment) event used moment (roll_id t.rolls bs)

abbrev pub is_fresh : Limits → Event → List Bucket → Bool
is_fresh limits event bs = is_none (target bs limits event.time event.arrival).into

-- ---- the bytes

abbrev pub behind : Event → Option Bucket → ℕ → Append
behind event None file = record { number = file; at = 0; bytes = event_bytes event }
behind event (Some b) file = record { number = b.file.number; at = b.bytes; bytes = event_bytes event }

abbrev pub found : Option ℕ → List Bucket → Option Bucket
found None bs = None
found (Some id) bs = by_id id bs

-- the record of the event, behind those of its bucket, or in a new file
abbrev pub piece : Limits → ℕ → Event → List Bucket → Append
piece limits file event bs = behind event (found (target bs limits event.time event.arrival).into bs) file

-- a piece more; of two for one file, one behind the other, one piece is made
abbrev pub joined : Append → List Append → List Append
joined p [] = p ∷ []
joined p (q ∷ []) =
    if q.number == p.number then record { number = q.number; at = q.at; bytes = q.bytes ++ p.bytes } ∷ [] else q ∷ p ∷ []
joined p (q ∷ r ∷ qs) = q ∷ joined p (r ∷ qs)

-- ---- the shelves

abbrev pub one_nulled : IndexTable → IndexTable
one_nulled s = record {
  indexes = s.indexes;
  settled = s.settled + 1;
  nulled = s.nulled + 1;
  dropped = s.dropped;
  placed = s.placed;
  next_file = s.next_file;
}

abbrev pub one_dropped : IndexTable → IndexTable
one_dropped s = record {
  indexes = s.indexes;
  settled = s.settled + 1;
  nulled = s.nulled;
  dropped = s.dropped + 1;
  placed = s.placed;
  next_file = s.next_file;
}

abbrev pub filled : List Entry → ℤ → ℕ → ℕ → Event → IndexView → IndexView
filled ledger moment file used event v =
    with_buckets (placed v.limits (next_number v.name v.buckets ledger) file event used moment v.buckets) v

abbrev pub one_placed : List Entry → ℤ → Event → IndexView → IndexTable → IndexTable
one_placed ledger moment event v s = record {
  indexes = change view_name v.name (filled ledger moment s.next_file (s.placed + 1) event) s.indexes;
  settled = s.settled + 1;
  nulled = s.nulled;
  dropped = s.dropped;
  placed = s.placed + 1;
  next_file = if is_fresh v.limits event v.buckets then s.next_file + 1 else s.next_file;
}

-- into an index that is on the shelves; one that is not takes none, which does not happen, since
-- all configured ones are
abbrev pub put_in : List Entry → ℤ → Event → Option IndexView → Work → Work
put_in ledger moment event None w = record { shelves = one_dropped w.shelves; pieces = w.pieces }
put_in ledger moment event (Some v) w = record {
  shelves = one_placed ledger moment event v w.shelves;
  pieces = joined (piece v.limits w.shelves.next_file event v.buckets) w.pieces;
}

abbrev pub deal_to : List Entry → ℤ → Event → Option (List ℕ) → Work → Work
deal_to ledger moment event None w = record { shelves = one_dropped w.shelves; pieces = w.pieces }
deal_to ledger moment event (Some name) w = put_in ledger moment (named name event) (find view_name name w.shelves.indexes) w

-- an event goes to its home or is dropped, and one of the null queue is counted
abbrev pub deal : LimitSet → List Entry → ℤ → Work → Routed → Work
deal set ledger moment w (To event) = deal_to ledger moment event (home set event.index) w
deal set ledger moment w Null = record { shelves = one_nulled w.shelves; pieces = w.pieces }

abbrev pub deal_all : LimitSet → List Entry → ℤ → Work → List Routed → Work
deal_all set ledger moment w outcomes = fold (deal set ledger moment) w outcomes
