-- What is the same for a ledger with its entries in another order: the statements of the laws.
use Rattle.std.specs.Prelude.{◌≡◌, ℕ, ℤ, List}
use Rattle.std.specs.List.Sorted.{IsPermutation}
use Rattle.ix_base.specs.declared.events.Routed.{Routed}
use Rattle.ix_items.specs.declared.items.Bucket.{Bucket}
use Rattle.ix_items.specs.declared.items.Entry.{Entry}
use Rattle.ix_life.specs.declared.sets.LimitSet.{LimitSet}
use Rattle.ix_catalog.specs.Changes.{changes}
use Rattle.ix_catalog.specs.Dealing.{deal_all}
use Rattle.ix_catalog.specs.Measures.{all_bytes, all_events, shelf_size}
use Rattle.ix_catalog.specs.Shelves.{next_number}
use Rattle.ix_catalog.specs.declared.placer.Work.{Work}
use Rattle.ix_catalog.specs.declared.index_table.IndexTable.{IndexTable}

abbrev pub NumbersAreSame : Type 0
NumbersAreSame = (ledger other : List Entry) (index : List ℕ) (buckets : List Bucket) → IsPermutation ledger other →
    next_number index buckets ledger ≡ next_number index buckets other

abbrev pub DealsAreSame : Type 0
DealsAreSame = (ledger other : List Entry) (set : LimitSet) (moment : ℤ) (work : Work) (outcomes : List Routed) →
    IsPermutation ledger other →
    deal_all set ledger moment work outcomes ≡ deal_all set other moment work outcomes

abbrev pub ChangesAreSame : Type 0
ChangesAreSame = (ledger other more : List Entry) (old new : IndexTable) → IsPermutation ledger other →
    changes ledger more old new ≡ changes other more old new

-- as much of everything
pub record IsAsMuch (ledger other : List Entry) (shelves : IndexTable) : Type 0 where
  pub bytes : all_bytes ledger shelves ≡ all_bytes other shelves
  pub events : all_events ledger shelves ≡ all_events other shelves
  pub size : shelf_size ledger shelves ≡ shelf_size other shelves

abbrev pub MeasuresAreSame : Type 0
MeasuresAreSame = (ledger other : List Entry) (shelves : IndexTable) → IsPermutation ledger other → IsAsMuch ledger other shelves
