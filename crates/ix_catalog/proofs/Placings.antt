-- An event is placed in an index, by where it goes.
use Rattle.std.proofs.Common.{◌≡◌, ℕ, ℤ, ◌+◌, cond, List, Option, None, Some, refl, ap, ◌∙◌, is_none}
use Rattle.ix_base.specs.declared.events.Event.{Event}
use Rattle.ix_items.specs.declared.items.Bucket.{Bucket}
use Rattle.ix_items.specs.declared.items.Entry.{Entry}
use Rattle.ix_life.specs.Placing.{Numbered, target, into, is_out, rolls, id_of}
use Rattle.ix_life.specs.declared.limits.Limits.{Limits}
use Rattle.ix_life.specs.declared.placing.Target.{Target}
use Rattle.ix_life.specs.declared.views.IndexView.{IndexView}
use Rattle.ix_catalog.specs.Buckets.{closed, with_event}
use Rattle.ix_catalog.specs.Dealing.{roll_id, put_into, fresh_bucket, is_fresh, filled, found, behind, piece}
use Rattle.ix_catalog.specs.Filling.{fed, opened, file_behind}
use Rattle.ix_catalog.specs.Shelves.{change_id, with_buckets, next_number}

-- no bucket rolls where there is one for the event
none_rolls : (limits : Limits) (o : Option Numbered) (bs : List Bucket) (id : ℕ) → id_of o ≡ Some id → id_of (rolls limits o bs) ≡ None
none_rolls limits None bs id e = cc
none_rolls limits (Some x) bs id e = refl

-- where it goes
abbrev pub goes : Event → IndexView → Target
goes event v = target v.buckets v.limits event.time event.arrival

pub filled_old : (ledger : List Entry) (moment : ℤ) (file used : ℕ) (event : Event) (v : IndexView) (id : ℕ) →
    (goes event v).into ≡ Some id →
    filled ledger moment file used event v ≡ fed moment id event used v
filled_old ledger moment file used event v id e =
    let t = goes event v in
    let fresh = fresh_bucket (next_number v.name v.buckets ledger) file t.quarantine event used moment in
    let out = is_out v.limits event.time event.arrival in
    ap (λ (o : Option ℕ). with_buckets (put_into v.limits o fresh event used moment (roll_id t.rolls v.buckets)) v) e
    ∙ ap (λ (o : Option ℕ). with_buckets (change_id id (λ (b : Bucket). closed v.limits (with_event event used moment b))
    (roll_id o v.buckets)) v)
    (none_rolls v.limits (into v.limits out event.time v.buckets) v.buckets id e)

pub filled_new : (ledger : List Entry) (moment : ℤ) (file used : ℕ) (event : Event) (v : IndexView) → (goes event v).into ≡ None →
    filled ledger moment file used event v ≡ opened ledger moment event file used (goes event v) v
filled_new ledger moment file used event v e =
    let t = goes event v in
    let fresh = fresh_bucket (next_number v.name v.buckets ledger) file t.quarantine event used moment in
    ap (λ (o : Option ℕ). with_buckets (put_into v.limits o fresh event used moment (roll_id t.rolls v.buckets)) v) e

pub piece_by : (file : ℕ) (event : Event) (v : IndexView) (o : Option ℕ) → (goes event v).into ≡ o →
    piece v.limits file event v.buckets ≡ behind event (found o v.buckets) file
piece_by file event v o e = ap (λ (p : Option ℕ). behind event (found p v.buckets) file) e

pub fresh_by : (event : Event) (v : IndexView) (o : Option ℕ) → (goes event v).into ≡ o → is_fresh v.limits event v.buckets ≡ is_none o
fresh_by event v o e = ap (λ (p : Option ℕ). is_none p) e

pub file_by : (file : ℕ) (event : Event) (v : IndexView) (o : Option ℕ) → (goes event v).into ≡ o →
    file_behind file event v ≡ cond (is_none o) (file + 1) file
file_by file event v o e = ap (λ (p : Option ℕ). cond (is_none p) (file + 1) file) e
