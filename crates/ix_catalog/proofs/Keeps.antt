-- The numbers of a store only grow while events are dealt.
use Rattle.std.proofs.Common.{ℕ, ℤ, ◌+◌, ◌<◌, ◌^◌, Bool, true, false, cond, List, [], ◌∷◌, Option, None, Some, arith}
use Rattle.std.specs.List.{AllByRecursion}
use Rattle.std.specs.Str.{bytes_eq}
use Rattle.std.specs.Prelude.{nat_le}
use Rattle.ix_base.specs.declared.events.Event.{Event}
use Rattle.ix_base.specs.declared.events.Routed.{Routed}
use Rattle.ix_base.specs.declared.events.Routed.TheVariants.{To, Null}
use Rattle.ix_items.specs.declared.items.Bucket.{Bucket}
use Rattle.ix_items.specs.declared.items.Entry.{Entry}
use Rattle.ix_life.specs.Housekeeping.{megabytes}
use Rattle.ix_life.specs.Placing.{target}
use Rattle.ix_life.specs.declared.limits.Limits.{Limits}
use Rattle.ix_life.specs.declared.sets.LimitSet.{LimitSet}
use Rattle.ix_life.specs.declared.views.IndexView.{IndexView}
use Rattle.ix_catalog.specs.Buckets.{rolled, closed, with_event, named}
use Rattle.ix_catalog.specs.Dealing.{home, roll_id, put_into, fresh_bucket, filled, is_fresh, put_in, deal_to, deal, deal_all}
use Rattle.ix_catalog.specs.Filling.{at_id}
use Rattle.ix_catalog.specs.Lists.{find, change}
use Rattle.ix_catalog.specs.Numbers.{KeepsBucket, KeepsIndex, KeepsNumbers}
use Rattle.ix_catalog.specs.Shelves.{change_id, has_id, view_name, next_number}
use Rattle.ix_catalog.specs.declared.placer.Work.{Work}
use Rattle.ix_catalog.proofs.Updates.{all_back, all_front}

-- ---- buckets

closed_by : (t : Bool) (b : Bucket) → KeepsBucket (cond t (rolled b) b) → KeepsBucket b
closed_by true b h = record { bytes = h.bytes; count = h.count }
closed_by false b h = h

at_by : (t : Bool) (f : Bucket → Bucket) (b : Bucket) → (KeepsBucket (f b) → KeepsBucket b) → KeepsBucket (cond t (f b) b) → KeepsBucket b
at_by true f b g h = g h
at_by false f b g h = h

with_event_back : (limits : Limits) (event : Event) (used : ℕ) (moment : ℤ) (b : Bucket) →
    KeepsBucket (closed limits (with_event event used moment b)) → KeepsBucket b
with_event_back limits event used moment b h =
    let w = with_event event used moment b in
    let k : KeepsBucket w = closed_by (nat_le (megabytes limits.max_data_mb) w.bytes) w h in
    record { bytes = omega (arith, k.bytes); count = omega (arith, k.count) }

change_id_back : (id : ℕ) (f : Bucket → Bucket) → ((b : Bucket) → KeepsBucket (f b) → KeepsBucket b) → (bs : List Bucket) →
    AllByRecursion KeepsBucket (change_id id f bs) → AllByRecursion KeepsBucket bs
change_id_back id f g bs h = all_back KeepsBucket (at_id id f) (λ b k. at_by (has_id id b) f b (g b) k) bs h

rolled_back : (b : Bucket) → KeepsBucket (rolled b) → KeepsBucket b
rolled_back b h = record { bytes = h.bytes; count = h.count }

roll_back : (o : Option ℕ) (bs : List Bucket) → AllByRecursion KeepsBucket (roll_id o bs) → AllByRecursion KeepsBucket bs
roll_back None bs h = h
roll_back (Some id) bs h = change_id_back id rolled rolled_back bs h

put_back : (limits : Limits) (o : Option ℕ) (fresh : Bucket) (event : Event) (used : ℕ) (moment : ℤ) (bs : List Bucket) →
    AllByRecursion KeepsBucket (put_into limits o fresh event used moment bs) → AllByRecursion KeepsBucket bs
put_back limits None fresh event used moment bs h = all_front KeepsBucket bs (closed limits fresh ∷ []) h
put_back limits (Some id) fresh event used moment bs h =
    change_id_back id (λ (b : Bucket). closed limits (with_event event used moment b)) (with_event_back limits event used moment) bs h

-- ---- indexes

pub filled_back : (ledger : List Entry) (moment : ℤ) (file used : ℕ) (event : Event) (v : IndexView) →
    KeepsIndex (filled ledger moment file used event v) → KeepsIndex v
filled_back ledger moment file used event v h =
    let t = target v.buckets v.limits event.time event.arrival in
    roll_back t.rolls v.buckets
    (put_back v.limits t.into (fresh_bucket (next_number v.name v.buckets ledger) file t.quarantine event used moment) event used moment
    (roll_id t.rolls v.buckets) h)

change_by : (t : Bool) (f : IndexView → IndexView) (v : IndexView) (vs ws : List IndexView) → (KeepsIndex (f v) → KeepsIndex v) →
    (AllByRecursion KeepsIndex ws → AllByRecursion KeepsIndex vs) → AllByRecursion KeepsIndex (cond t (f v ∷ vs) (v ∷ ws)) →
    AllByRecursion KeepsIndex (v ∷ vs)
change_by true f v vs ws g rest h = (g h.0, h.1)
change_by false f v vs ws g rest h = (h.0, rest h.1)

change_back : (name : List ℕ) (f : IndexView → IndexView) → ((v : IndexView) → KeepsIndex (f v) → KeepsIndex v) → (vs : List IndexView) →
    AllByRecursion KeepsIndex (change view_name name f vs) → AllByRecursion KeepsIndex vs
change_back name f g [] h = tt
change_back name f g (v ∷ vs) h = change_by (bytes_eq v.name name) f v vs (change view_name name f vs) (g v) (change_back name f g vs) h

file_back : (t : Bool) (n : ℕ) → cond t (n + 1) n < 2 ^ 63 → n < 2 ^ 63
file_back true n h = omega (arith, h)
file_back false n h = h

-- ---- the shelves

put_in_back : (ledger : List Entry) (moment : ℤ) (event : Event) (o : Option IndexView) (w : Work) →
    KeepsNumbers (put_in ledger moment event o w).shelves → KeepsNumbers w.shelves
put_in_back ledger moment event None w h = record { settled = omega (arith, h.settled); next_file = h.next_file; indexes = h.indexes }
put_in_back ledger moment event (Some v) w h = record {
  settled = omega (arith, h.settled);
  next_file = file_back (is_fresh v.limits event v.buckets) w.shelves.next_file h.next_file;
  indexes = change_back v.name (filled ledger moment w.shelves.next_file (w.shelves.placed + 1) event)
      (filled_back ledger moment w.shelves.next_file (w.shelves.placed + 1) event) w.shelves.indexes h.indexes;
}

deal_to_back : (ledger : List Entry) (moment : ℤ) (event : Event) (o : Option (List ℕ)) (w : Work) →
    KeepsNumbers (deal_to ledger moment event o w).shelves → KeepsNumbers w.shelves
deal_to_back ledger moment event None w h = record { settled = omega (arith, h.settled); next_file = h.next_file; indexes = h.indexes }
deal_to_back ledger moment event (Some name) w h = put_in_back ledger moment (named name event) (find view_name name w.shelves.indexes) w h

pub deal_back : (set : LimitSet) (ledger : List Entry) (moment : ℤ) (w : Work) (o : Routed) →
    KeepsNumbers (deal set ledger moment w o).shelves → KeepsNumbers w.shelves
deal_back set ledger moment w (To event) h = deal_to_back ledger moment event (home set event.index) w h
deal_back set ledger moment w Null h = record { settled = omega (arith, h.settled); next_file = h.next_file; indexes = h.indexes }

pub deal_all_back : (set : LimitSet) (ledger : List Entry) (moment : ℤ) (w : Work) (os : List Routed) →
    KeepsNumbers (deal_all set ledger moment w os).shelves → KeepsNumbers w.shelves
deal_all_back set ledger moment w [] h = h
deal_all_back set ledger moment w (o ∷ os) h = deal_back set ledger moment w o
    (deal_all_back set ledger moment (deal set ledger moment w o) os h)

-- ---- a roll keeps the numbers

rolled_by : (t : Bool) (b : Bucket) → KeepsBucket b → KeepsBucket (cond t (rolled b) b)
rolled_by true b h = record { bytes = h.bytes; count = h.count }
rolled_by false b h = h

change_rolled : (id : ℕ) (bs : List Bucket) → AllByRecursion KeepsBucket bs → AllByRecursion KeepsBucket (change_id id rolled bs)
change_rolled id [] h = tt
change_rolled id (b ∷ bs) h = (rolled_by (has_id id b) b h.0, change_rolled id bs h.1)

pub roll_keeps : (o : Option ℕ) (bs : List Bucket) → AllByRecursion KeepsBucket bs → AllByRecursion KeepsBucket (roll_id o bs)
roll_keeps None bs h = h
roll_keeps (Some id) bs h = change_rolled id bs h
