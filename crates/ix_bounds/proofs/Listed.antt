-- Of the indexes that are seen, those that have had a bucket are told by the buckets that are
-- listed and by the ledger.
use Rattle.std.proofs.Common.{◌≡◌, ◌≤◌, ℕ, suc, ◌+◌, Bool, true, false, cond, List, [], ◌∷◌, length, refl, sym, ap, ◌∙◌, subst, arith}
use Rattle.std.specs.Prelude.{Option, Some, None, ◌||◌, fold, unwrap_or}
use Rattle.std.specs.List.{AllByRecursion, list_any, count_by}
use Rattle.std.specs.List.Sorted.{IsPermutation}
use Rattle.std.specs.declared.cmp.Ordering.TheVariants.{Less}
use Rattle.std.specs.Ordering.{nat_cmp}
use Rattle.std.specs.Cmp.Lexicographic.{slice_cmp}
use Rattle.std.proofs.lemmas.List.Sums.{sum_by-cons}
use Rattle.std.proofs.lemmas.List.Sorted.{sum_by-IsPermutation}
use Rattle.ix_items.specs.declared.items.Bucket.{Bucket}
use Rattle.ix_items.specs.declared.items.Entry.{Entry}
use Rattle.ix_model.specs.Buckets.{Slot, Index, buckets}
use Rattle.ix_model.specs.Shown.{with_fresh}
use Rattle.ix_model.specs.State.{Catalog, index_name, fresh_index, slots_in}
use Rattle.ix_model.proofs.Ledgers.{HasAll}
use Rattle.ix_model.proofs.Named.{by_test}
use Rattle.ix_catalog.specs.Lists.{find, AreAscending}
use Rattle.ix_catalog.specs.Measures.{has_some}
use Rattle.ix_catalog.specs.Shelves.{is_live, is_of, next_number}
use Rattle.ix_model.proofs.Counting.{next_number_is}
use Rattle.ix_model.proofs.Listing.{among, or_fresh, find_fresh, ascending_fresh}
use Rattle.ix_model.proofs.Names.{less_other, found_first}
use Rattle.ix_bounds.proofs.Sums.{all_from, all_two}

none_some : {X : Type 0} {x : X} → None ≡ Some x → ⊥
none_some e = cc

some_same : {X : Type 0} (x y : X) → Some x ≡ Some y → x ≡ y
some_same x y e = cc

abbrev Before : {X : Type 0} → (X → List ℕ) → X → X → Type 0
Before name_of x y = slice_cmp nat_cmp (name_of x) (name_of y) ≡ Less

-- each is found under its own name
pub found_own : {X : Type 0} (name_of : X → List ℕ) (xs : List X) → AreAscending name_of xs →
    AllByRecursion (λ x. find name_of (name_of x) xs ≡ Some x) xs
found_own name_of [] h = tt
found_own name_of (x ∷ xs) h = (
  found_first name_of x xs,
  all_two (Before name_of x) (λ y. find name_of (name_of y) xs ≡ Some y) (λ y. find name_of (name_of y) (x ∷ xs) ≡ Some y)
      (λ y b f. rw (less_other (name_of x) (name_of y) b) f) xs h.0 (found_own name_of xs h.1),
)

own_slots : (b : Bool) (name : List ℕ) (o : Option Index) (i : Index) → or_fresh b name o ≡ Some i →
    i.slots ≡ (unwrap_or o (fresh_index name)).slots
own_slots true name None i e = sym (ap (λ (x : Index). x.slots) (some_same (fresh_index name) i e))
own_slots false name None i e = absurd (none_some e)
own_slots b name (Some j) i e = sym (ap (λ (x : Index). x.slots) (some_same j i e))

-- the number of the next bucket is how many there were
abbrev pub IsNumbered : List Entry → Index → Type 0
IsNumbered ledger i = next_number i.name (buckets i.slots) ledger ≡ length i.slots

pub numbered : (s : Catalog) (names : List (List ℕ)) → HasAll s → AreAscending index_name s.indexes →
    AllByRecursion (IsNumbered s.ledger) (fold with_fresh s.indexes names)
numbered s names h a =
    all_from (λ (i : Index). find index_name i.name (fold with_fresh s.indexes names) ≡ Some i) (IsNumbered s.ledger)
    (λ i e. (let own : i.slots ≡ slots_in s.indexes i.name =
    own_slots (among names i.name) i.name (find index_name i.name s.indexes) i (sym (find_fresh names s.indexes i.name) ∙ e) in
    subst (λ (l : List Slot). next_number i.name (buckets l) s.ledger ≡ length l) (sym own) (next_number_is s i.name h a)))
    (fold with_fresh s.indexes names) (found_own index_name (fold with_fresh s.indexes names) (ascending_fresh names s.indexes a))

-- whatever the order of the ledger
pub numbered_in : (s : Catalog) (names : List (List ℕ)) (ledger : List Entry) → HasAll s → AreAscending index_name s.indexes →
    IsPermutation ledger s.ledger →
    AllByRecursion (IsNumbered ledger) (fold with_fresh s.indexes names)
numbered_in s names ledger h a p =
    all_from (IsNumbered s.ledger) (IsNumbered ledger)
    (λ i e. (let q = sum_by-IsPermutation (λ (x : Entry). cond (is_of i.name x) 1 0) ledger s.ledger p in omega (arith, e, q)))
    (fold with_fresh s.indexes names) (numbered s names h a)

-- ---- whether there was one

abbrev once : Bool → ℕ
once b = cond b 1 0

any_true : {X : Type 0} (p : X → Bool) (xs : List X) → 1 ≤ count_by p xs → list_any p xs ≡ true
any_true p [] h = absurd (omega (arith, h))
any_true p (x ∷ xs) h =
    by_test (p x)
    (λ t. rw t refl)
    (λ t. (let a = sum_by-cons (λ y. cond (p y) 1 0) x xs in let c : once (p x) ≡ 0 = ap once t in
    rw t (any_true p xs (omega (arith, h, a, c)))))

any_false : {X : Type 0} (p : X → Bool) (xs : List X) → count_by p xs ≡ 0 → list_any p xs ≡ false
any_false p [] h = refl
any_false p (x ∷ xs) h =
    by_test (p x)
    (λ t. (let a = sum_by-cons (λ y. cond (p y) 1 0) x xs in let c : once (p x) ≡ 1 = ap once t in
    absurd (omega (arith, h, a, c))))
    (λ t. (let a = sum_by-cons (λ y. cond (p y) 1 0) x xs in let c : once (p x) ≡ 0 = ap once t in
    rw t (any_false p xs (omega (arith, h, a, c)))))

abbrev pub has_slots : List Slot → Bool
has_slots [] = false
has_slots (s ∷ slots) = true

pub has_number_is : (ledger : List Entry) (name : List ℕ) (slots : List Slot) → next_number name (buckets slots) ledger ≡ length slots →
    (has_some (buckets slots) || list_any (is_of name) ledger) ≡ has_slots slots
has_number_is ledger name [] e = any_false (is_of name) ledger (omega (arith, e))
has_number_is ledger name (s ∷ slots) e = by (buckets (s ∷ slots)) (length slots) e
  where
    by : (bs : List Bucket) (n : ℕ) → count_by is_live bs + count_by (is_of name) ledger ≡ suc n →
        (has_some bs || list_any (is_of name) ledger) ≡ true
    by [] n k = any_true (is_of name) ledger (omega (arith, k))
    by (b ∷ bs) n k = refl
