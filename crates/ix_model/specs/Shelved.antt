-- The shelves that a state has in memory.
use Rattle.std.specs.Prelude.{◌≡◌, List, map, fold, None}
use Rattle.ix_items.specs.declared.items.Kept.{Kept}
use Rattle.ix_life.specs.Limits as life
use Rattle.ix_life.specs.declared.sets.LimitSet.{LimitSet}
use Rattle.ix_life.specs.declared.views.IndexView.{IndexView}
use Rattle.ix_model.specs.Buckets.{Index}
use Rattle.ix_model.specs.Given.{entries}
use Rattle.ix_model.specs.Shown.{configured, with_fresh, index_view}
use Rattle.ix_model.specs.State.{Catalog}
use Rattle.ix_catalog.specs.declared.index_table.IndexTable.{IndexTable}

-- the indexes that are seen, each with the limits that the settings in force give it
abbrev pub shelved_indexes : List Kept → List Index → List IndexView
shelved_indexes force indexes = map (index_view force) (fold with_fresh indexes (configured force))

abbrev pub shelved : List Kept → Catalog → IndexTable
shelved force s = record {
  indexes = shelved_indexes force s.indexes;
  settled = s.counts.settled;
  nulled = s.counts.nulled;
  dropped = s.counts.dropped;
  placed = s.counts.placed;
  next_file = s.next_file;
}

-- the limits that were loaded from the settings in force, without a fault
pub record IsSet (force : List Kept) (set : LimitSet) : Type 0 where
  pub sound : life.first_fault (entries force) ≡ None
  pub limits : life.AreLimits (entries force) set
