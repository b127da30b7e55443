-- What is summed over buckets and entries comes to the same by what is in memory.
use Rattle.std.proofs.Common.{◌≡◌, ℕ, ◌+◌, List, refl, sym, ◌∙◌, arith}
use Rattle.std.specs.Prelude.{fold}
use Rattle.std.specs.List.{sum_by}
use Rattle.std.specs.List.Sorted.{IsPermutation}
use Rattle.std.proofs.lemmas.List.Sorted.{sum_by-IsPermutation}
use Rattle.ix_items.specs.declared.items.Bucket.{Bucket}
use Rattle.ix_items.specs.declared.items.Entry.{Entry}
use Rattle.ix_items.specs.declared.items.Kept.{Kept}
use Rattle.ix_life.specs.declared.views.IndexView.{IndexView}
use Rattle.ix_model.specs.Buckets.{Index, buckets, ledger}
use Rattle.ix_model.specs.Shown.{configured, with_fresh, index_view}
use Rattle.ix_model.specs.State.{Catalog}
use Rattle.ix_model.proofs.Ledgers.{HasAll, same_entries}
use Rattle.ix_model.specs.Shelved.{shelved_indexes}
use Rattle.ix_bounds.proofs.Sums.{sum_map, sum_flat, sum_two, fresh_sum}

abbrev pub in_view : (Bucket → ℕ) → IndexView → ℕ
in_view g v = sum_by g v.buckets

abbrev pub in_buckets : (Bucket → ℕ) → Index → ℕ
in_buckets g i = sum_by g (buckets i.slots)

abbrev pub in_ledger : (Entry → ℕ) → Index → ℕ
in_ledger f i = sum_by f (ledger i.slots)

abbrev pub in_index : (Bucket → ℕ) → (Entry → ℕ) → Index → ℕ
in_index g f i = in_buckets g i + in_ledger f i

pub views_sum : (g : Bucket → ℕ) (force : List Kept) (is : List Index) →
    sum_by (in_view g) (shelved_indexes force is) ≡ sum_by (in_buckets g) is
views_sum g force is =
    sum_map (in_view g) (index_view force) (fold with_fresh is (configured force))
    ∙ fresh_sum (in_buckets g) (λ name. refl) (configured force) is

pub entries_sum : (f : Entry → ℕ) (s : Catalog) (entries : List Entry) → HasAll s → IsPermutation entries s.ledger →
    sum_by f entries ≡ sum_by (in_ledger f) s.indexes
entries_sum f s entries h p =
    sym (sum_by-IsPermutation f entries s.ledger p) ∙ same_entries s h f ∙ sum_flat f (λ (i : Index). ledger i.slots) s.indexes

pub added : (g : Bucket → ℕ) (f : Entry → ℕ) (force : List Kept) (s : Catalog) (entries : List Entry) → HasAll s →
    IsPermutation entries s.ledger →
    sum_by (in_view g) (shelved_indexes force s.indexes) + sum_by f entries ≡ sum_by (in_index g f) s.indexes
added g f force s entries h p =
    let a = views_sum g force s.indexes in
    let b = entries_sum f s entries h p in
    let c = sum_two (in_buckets g) (in_ledger f) s.indexes in
    omega (arith, a, b, c)
