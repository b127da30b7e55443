-- The indexes that are seen, made of those that ever had a bucket.
use Rattle.std.specs.Prelude.{◌≡◌, ℕ, List, [], filter, fold, map, unwrap_or}
use Rattle.std.specs.List.{AllByRecursion, AllZip}
use Rattle.ix_items.specs.declared.items.Entry.{Entry}
use Rattle.ix_items.specs.declared.items.Kept.{Kept}
use Rattle.ix_life.specs.Limits.{limits_of}
use Rattle.ix_life.specs.Retired.{HaveStanzas}
use Rattle.ix_life.specs.declared.limits.Limits.{Limits}
use Rattle.ix_life.specs.declared.sets.IndexLimits.{IndexLimits}
use Rattle.ix_life.specs.declared.sets.LimitSet.{LimitSet}
use Rattle.ix_life.specs.declared.views.IndexView.{IndexView}
use Rattle.ix_model.specs.Buckets.{Index, buckets}
use Rattle.ix_model.specs.Given.{entries}
use Rattle.ix_model.specs.State.{index_name}
use Rattle.ix_catalog.specs.Lists.{change_or_insert, AreAscending}
use Rattle.ix_catalog.specs.Measures.{has_number}
use Rattle.ix_catalog.specs.Shelves.{view_name}
use Rattle.ix_model.specs.Shelved.{IsSet}
use Rattle.ix_bounds.specs.Names.{HasName}
use Rattle.ix_bounds.specs.declared.shelving.Bucketed.{Bucketed}

-- ---- what is given

-- an index with the buckets that are seen of it
pub record IsBucketed (i : Index) (b : Bucketed) : Type 0 where
  pub name : b.name ≡ i.name
  pub buckets : b.buckets ≡ buckets i.slots

-- settings whose limits are these, with an own entry for each stanza that has keys
pub record AreSettings (force : List Kept) (set : LimitSet) : Type 0 where
  pub stanzas : HaveStanzas (entries force)
  pub set_is : IsSet force set

-- indexes, by their names, each once; none has the name of a volume
pub record AreIndexes (all : List Index) (given : List Bucketed) : Type 0 where
  pub names : AllByRecursion HasName all
  pub zipped : AllZip IsBucketed all given
  pub ascending : AreAscending index_name all

-- ---- what is made

-- the limits of an index by a set
abbrev pub limits_for : LimitSet → List ℕ → Limits
limits_for set name = unwrap_or (limits_of set name) set.retired

abbrev pub view_of : LimitSet → Bucketed → IndexView
view_of set b = record { name = b.name; limits = limits_for set b.name; buckets = b.buckets }

-- a configured index that has no bucket
abbrev pub fresh_view : IndexLimits → IndexView
fresh_view x = record { name = x.name; limits = x.limits; buckets = [] }

-- a configured index is listed among the others, where it is not
abbrev pub with_view : List IndexView → IndexLimits → List IndexView
with_view views x = change_or_insert view_name x.name (λ (v : IndexView). v) (fresh_view x) views

abbrev pub shelved_by : LimitSet → List Bucketed → List IndexView
shelved_by set given = fold with_view (map (view_of set) given) set.indexes

-- those that ever had a bucket, by a ledger
abbrev pub bucketed_of : IndexView → Bucketed
bucketed_of v = record { name = v.name; buckets = v.buckets }

abbrev pub bucketed : List Entry → List IndexView → List Bucketed
bucketed ledger views = map bucketed_of (filter (has_number ledger) views)
