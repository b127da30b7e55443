-- What the buckets and entries of an index come to does not grow by a turn of housekeeping.
use Rattle.std.proofs.Common.{◌≡◌, ◌≤◌, ℕ, ◌+◌, ℤ, Bool, true, false, List, [], ◌∷◌, ◌++◌, length, refl, sym, ap, ◌∙◌, arith}
use Rattle.std.specs.Prelude.{Option, Some, None, if◌then◌else◌, option_to_list}
use Rattle.std.specs.List.{AllByRecursion, flat_map, sum_by}
use Rattle.std.proofs.lemmas.List.Sums.{sum_by-append, sum_by-cons}
use Rattle.ix_items.specs.declared.items.Bucket.{Bucket}
use Rattle.ix_items.specs.declared.items.Entry.{Entry}
use Rattle.ix_items.specs.declared.items.Kept.{Kept}
use Rattle.ix_items.specs.declared.items.Rule.{Rule}
use Rattle.ix_model.specs.Buckets.{Standing, live, frozen, Slot, Index, listed, entered, buckets, ledger}
use Rattle.ix_model.specs.Keeping.{turned_by, turned, file_behind}
use Rattle.ix_model.specs.Keeping as kept
use Rattle.ix_model.specs.Step.{turn_in, turned_index, files_taken, all_turned}
use Rattle.ix_catalog.specs.Buckets.{Turn, rule_of, entry_of, staying}

-- what a bucket counts for is what its entry counts for at least, and what it does where it stays
pub record Counts (name : List ℕ) (f : Bucket → ℕ) (g : Entry → ℕ) : Type 0 where
  pub stays : (t : Turn) (file : ℕ) (b : Bucket) → f (staying t file b) ≡ f b
  pub freezes : (t : Turn) (file : ℕ) (rule : Rule) (b : Bucket) → t.index ≡ name → g (entry_of t file rule b) ≤ f b

-- ---- one bucket

abbrev pub standing_sum : (Bucket → ℕ) → (Entry → ℕ) → Standing → ℕ
standing_sum f g s = sum_by f (option_to_list (listed s)) + sum_by g (option_to_list (entered s))

module _ (name : List ℕ) (f : Bucket → ℕ) (g : Entry → ℕ) (h : Counts name f g) where
  turned_least : (t : Turn) (file : ℕ) (b : Bucket) (rule : Option Rule) → t.index ≡ name →
      standing_sum f g (turned_by t file b rule) ≤ standing_sum f g (live b)
  turned_least t file b None e =
      let a = h.stays t file b in
      omega (arith, a)
  turned_least t file b (Some rule) e =
      let a = h.freezes t file rule b e in
      omega (arith, a)

  standing_least : (t : Turn) (file : ℕ) (s : Standing) → t.index ≡ name → standing_sum f g (turned t file s) ≤ standing_sum f g s
  standing_least t file (live b) e = turned_least t file b (rule_of t.moves.frozen b.id) e
  standing_least t file (frozen x other) e = omega arith

  -- ---- an index

  slots_least : (t : Turn) (file : ℕ) (slots : List Slot) → t.index ≡ name →
      sum_by f (buckets (kept.all_turned t file slots)) + sum_by g (ledger (kept.all_turned t file slots)) ≤ sum_by f
      (buckets slots) + sum_by g (ledger slots)
  slots_least t file [] e = omega arith
  slots_least t file (s ∷ slots) e =
      let next = file_behind t file s.standing in
      let now = turned t file s.standing in
      let a = standing_least t file s.standing e in
      let b = slots_least t next slots e in
      let c = sum_by-append f (option_to_list (listed now)) (buckets (kept.all_turned t next slots)) in
      let d = sum_by-append g (option_to_list (entered now)) (ledger (kept.all_turned t next slots)) in
      let i = sum_by-append f (option_to_list (listed s.standing)) (buckets slots) in
      let j = sum_by-append g (option_to_list (entered s.standing)) (ledger slots) in
      omega (arith, a, b, c, d, i, j)

-- what the buckets of an index come to, and its entries
abbrev pub bucket_sum : (List ℕ → Bucket → ℕ) → Index → ℕ
bucket_sum f i = sum_by (f i.name) (buckets i.slots)

abbrev pub entry_sum : (Entry → ℕ) → Index → ℕ
entry_sum g i = sum_by g (ledger i.slots)

module _ (f : List ℕ → Bucket → ℕ) (g : Entry → ℕ) (h : (name : List ℕ) → Counts name (f name) g) where
  index_least : (force : List Kept) (moment : ℤ) (file : ℕ) (i : Index) →
      bucket_sum f (turned_index force moment file i) + entry_sum g (turned_index force moment file i) ≤ bucket_sum f i + entry_sum g i
  index_least force moment file i = slots_least i.name (f i.name) g (h i.name) (turn_in force moment i) file i.slots refl

  -- ---- all of them

  pub all_least : (force : List Kept) (moment : ℤ) (file : ℕ) (is : List Index) →
      sum_by (bucket_sum f) (all_turned force moment file is) + sum_by (entry_sum g) (all_turned force moment file is)
      ≤ sum_by (bucket_sum f) is + sum_by (entry_sum g) is
  all_least force moment file [] = omega arith
  all_least force moment file (i ∷ is) =
      let next = file + files_taken force moment i in
      let now = turned_index force moment file i in
      let a = index_least force moment file i in
      let b = all_least force moment next is in
      let c = sum_by-cons (bucket_sum f) now (all_turned force moment next is) in
      let d = sum_by-cons (entry_sum g) now (all_turned force moment next is) in
      let k = sum_by-cons (bucket_sum f) i is in
      let l = sum_by-cons (entry_sum g) i is in
      omega (arith, a, b, c, d, k, l)
