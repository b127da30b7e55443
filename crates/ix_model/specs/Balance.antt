-- Nothing is lost or made.
use Rattle.std.specs.Prelude.{◌≡◌, ◌+◌, ℕ}
use Rattle.std.specs.List.{sum_by}
use Rattle.ix_items.specs.declared.items.Bucket.{Bucket}
use Rattle.ix_items.specs.declared.items.Entry.{Entry}
use Rattle.ix_items.specs.declared.items.State.{State}
use Rattle.ix_items.specs.declared.items.State.TheVariants as states
use Rattle.ix_life.specs.declared.views.IndexView.{IndexView}
use Rattle.ix_life.specs.declared.views.View.{View}
use Rattle.ix_model.specs.Buckets.{Index, live_buckets, ledger}
use Rattle.ix_model.specs.State.{Catalog}

-- how many events the hot, quarantine, warm and cold buckets say that they have, and how many the
-- entries of the ledger do
abbrev pub stored : Index → ℕ
stored i = sum_by (λ (b : Bucket). b.count) (live_buckets i.slots)

abbrev pub frozen : Index → ℕ
frozen i = sum_by (λ (e : Entry). e.count) (ledger i.slots)

-- each event that was settled is stored, frozen, nulled or dropped; those that are stored or frozen
-- were placed
pub record IsBalanced (s : Catalog) : Type 0 where
  pub settled : s.counts.settled ≡ ((sum_by stored s.indexes + sum_by frozen s.indexes) + s.counts.nulled) + s.counts.dropped
  pub placed : s.counts.placed ≡ sum_by stored s.indexes + sum_by frozen s.indexes

-- ---- by what is seen

abbrev pub stored_by : State → ℕ → ℕ
stored_by states.Hot count = count
stored_by states.Quarantine count = count
stored_by states.Warm count = count
stored_by states.Cold count = count
stored_by states.Thawed count = 0

-- what was thawed is not stored again: it is in the ledger
abbrev pub stored_in : IndexView → ℕ
stored_in i = sum_by (λ (b : Bucket). stored_by b.state b.count) i.buckets

abbrev pub IsBalancedView : View → Type 0
IsBalancedView v =
    v.settled ≡ ((sum_by stored_in v.indexes + sum_by (λ (e : Entry). e.count) v.ledger) + v.nulled) + v.dropped
