-- What is seen of a state.
use Rattle.std.specs.Prelude.{ℕ, List, map, fold}
use Rattle.ix_items.specs.declared.items.Entry.{Entry}
use Rattle.ix_items.specs.declared.items.Kept.{Kept}
use Rattle.ix_life.specs.Listed as life
use Rattle.ix_life.specs.declared.sets.IndexLimits.{IndexLimits}
use Rattle.ix_life.specs.declared.views.IndexView.{IndexView}
use Rattle.ix_life.specs.declared.views.View.{View}
use Rattle.ix_model.specs.Buckets.{Index, buckets}
use Rattle.ix_model.specs.Given.{entries, limits}
use Rattle.ix_model.specs.Ranked.{ranked}
use Rattle.ix_catalog.specs.Lists.{change_or_insert}
use Rattle.ix_model.specs.State.{State, index_name, fresh_index}

-- the indexes that are configured
abbrev pub configured : List Kept → List (List ℕ)
configured force = map (λ (x : IndexLimits). x.name) (life.listed (entries force))

abbrev pub with_fresh : List Index → List ℕ → List Index
with_fresh indexes name = change_or_insert index_name name (λ (i : Index). i) (fresh_index name) indexes

-- these and the retired ones, by their names; one that never had a bucket is listed without any
abbrev pub all_indexes : State → List Index
all_indexes m = fold with_fresh m.catalog.indexes (configured m.force)

abbrev pub index_view : List Kept → Index → IndexView
index_view force i = record { name = i.name; limits = limits force i.name; buckets = buckets i.slots }

-- the entries of all that was ever frozen, in the order in which it froze
abbrev pub whole_ledger : State → List Entry
whole_ledger m = m.catalog.ledger

-- It is seen in the order that its entries fix, which is that of freezing but for two Ticks of one
-- moment, and for a Tick that by the rule of the total size freezes cold buckets and then an older
-- warm one.
abbrev pub view : State → View
view m = record {
  indexes = map (index_view m.force) (all_indexes m);
  ledger = ranked (whole_ledger m);
  settled = m.catalog.counts.settled;
  nulled = m.catalog.counts.nulled;
  dropped = m.catalog.counts.dropped;
}
