-- The number of the next bucket of an index: the live buckets that are listed and the entries in
-- the ledger come to all that it ever had.
use Rattle.std.proofs.Common.{◌≡◌, ℕ, suc, ◌+◌, Bool, true, false, List, [], ◌∷◌, length, refl, sym, ap, ◌∙◌, arith}
use Rattle.std.specs.Prelude.{Some, None, if◌then◌else◌, option_to_list, unwrap_or, bytes_eq}
use Rattle.std.specs.List.{AllByRecursion, sum_by}
use Rattle.std.specs.declared.cmp.Ordering.TheVariants.{Less}
use Rattle.std.specs.Ordering.{nat_cmp}
use Rattle.std.specs.Cmp.Lexicographic.{slice_cmp}
use Rattle.std.proofs.lemmas.List.Sums.{sum_by-cons, sum_by-append}
use Rattle.ix_base.specs.declared.events.Event.{Event}
use Rattle.ix_items.specs.declared.items.Bucket.{Bucket}
use Rattle.ix_items.specs.declared.items.Entry.{Entry}
use Rattle.ix_items.specs.declared.items.State.{State}
use Rattle.ix_items.specs.declared.items.State.TheVariants as states
use Rattle.ix_model.specs.Buckets.{Standing, live, frozen, Slot, Index, listed, buckets}
use Rattle.ix_model.specs.State.{Catalog, index_name, fresh_index, slots_in}
use Rattle.ix_model.specs.Sums.{IsStandingOf, AreSoundFrom, IsSound}
use Rattle.ix_model.proofs.Freezing.{gain, gained}
use Rattle.ix_model.proofs.Ledgers.{HasAll, gains}
use Rattle.ix_model.proofs.Named.{by_test, same_bytes, bytes_same}
use Rattle.ix_catalog.specs.Lists.{find, AreAscending}
use Rattle.ix_catalog.specs.Shelves.{is_live_in, is_live, is_of, next_number}
use Rattle.ix_model.proofs.Names.{less_other}

true_false : true ≡ false → ⊥
true_false e = cc

-- an entry of this index counts
abbrev of : List ℕ → Entry → ℕ
of name e = if is_of name e then 1 else 0

abbrev live_here : Bucket → ℕ
live_here b = if is_live b then 1 else 0

not_thawed : (state : State) → (state ≡ states.Thawed → ⊥) → is_live_in state ≡ true
not_thawed states.Hot d = refl
not_thawed states.Quarantine d = refl
not_thawed states.Warm d = refl
not_thawed states.Cold d = refl
not_thawed states.Thawed d = absurd (d refl)

pub live_is : (b : Bucket) → (b.state ≡ states.Thawed → ⊥) → is_live b ≡ true
live_is b d = not_thawed b.state d

pub thawed_is : (b : Bucket) → b.state ≡ states.Thawed → is_live b ≡ false
thawed_is b e = ap is_live_in e

-- ---- one index

one_counts : (name index : List ℕ) (a : ℕ) (events : List Event) (standing : Standing) → IsStandingOf index a events standing →
    bytes_eq index name ≡ true →
    gain (of name) standing + sum_by live_here (option_to_list (listed standing)) ≡ 1
one_counts name index a events (live b) h t = let p : live_here b ≡ 1 = rw (live_is b h.state_is) refl in omega (arith, p)
one_counts name index a events (frozen e None) h t =
    let p : of name e ≡ 1 = rw (ap (λ (n : List ℕ). bytes_eq n name) h.0.index_is ∙ t) refl in omega (arith, p)
one_counts name index a events (frozen e (Some b)) h t =
    let p : of name e ≡ 1 = rw (ap (λ (n : List ℕ). bytes_eq n name) h.0.index_is ∙ t) refl in
    let q : live_here b ≡ 0 = rw (thawed_is b h.1.state_is) refl in
    omega (arith, p, q)

one_other : (name index : List ℕ) (a : ℕ) (events : List Event) (standing : Standing) → IsStandingOf index a events standing →
    bytes_eq index name ≡ false →
    gain (of name) standing ≡ 0
one_other name index a events (live b) h t = refl
one_other name index a events (frozen e other) h t =
    let p : of name e ≡ 0 = rw (ap (λ (n : List ℕ). bytes_eq n name) h.0.index_is ∙ t) refl in omega (arith, p)

all_count : (name index : List ℕ) (a : ℕ) (slots : List Slot) → AreSoundFrom index a slots → bytes_eq index name ≡ true →
    sum_by (gained (of name)) slots + sum_by live_here (buckets slots) ≡ length slots
all_count name index a [] h t = refl
all_count name index a (s ∷ slots) h t =
    let p = one_counts name index a s.events s.standing h.0 t in
    let q = all_count name index (suc a) slots h.1 t in
    let r = sum_by-cons (gained (of name)) s slots in
    let u = sum_by-append live_here (option_to_list (listed s.standing)) (buckets slots) in
    omega (arith, p, q, r, u)

all_other : (name index : List ℕ) (a : ℕ) (slots : List Slot) → AreSoundFrom index a slots → bytes_eq index name ≡ false →
    sum_by (gained (of name)) slots ≡ 0
all_other name index a [] h t = refl
all_other name index a (s ∷ slots) h t =
    let p = one_other name index a s.events s.standing h.0 t in
    let q = all_other name index (suc a) slots h.1 t in
    let r = sum_by-cons (gained (of name)) s slots in
    omega (arith, p, q, r)

-- ---- all indexes

none_behind : (name index : List ℕ) (is : List Index) → AllByRecursion IsSound is →
    AllByRecursion (λ (y : Index). slice_cmp nat_cmp index y.name ≡ Less) is →
    bytes_eq index name ≡ true → sum_by (gains (of name)) is ≡ 0
none_behind name index [] h l t = refl
none_behind name index (i ∷ is) h l t =
    let p = sum_by-cons (gains (of name)) i is in
    let q = all_other name i.name 0 i.slots h.0 (by_test (bytes_eq i.name name)
    (λ u. absurd (true_false (sym (bytes_same index i.name (same_bytes index name t ∙ sym (same_bytes i.name name u)))
    ∙ less_other index i.name l.0)))
    (λ u. u)) in
    let r = none_behind name index is h.1 l.1 t in
    omega (arith, p, q, r)

counted : (name : List ℕ) (is : List Index) → AllByRecursion IsSound is → AreAscending index_name is →
    sum_by (gains (of name)) is + sum_by live_here (buckets (slots_in is name)) ≡ length (slots_in is name)
counted name [] h l = refl
counted name (i ∷ is) h l = by (bytes_eq i.name name) refl (counted name is h.1 l.1)
  where
    by : (b : Bool) → bytes_eq i.name name ≡ b →
        sum_by (gains (of name)) is + sum_by live_here (buckets (slots_in is name)) ≡ length (slots_in is name) →
        sum_by (gains (of name)) (i ∷ is)
        + sum_by live_here (buckets (unwrap_or (if b then Some i else find index_name name is) (fresh_index name)).slots)
        ≡ length (unwrap_or (if b then Some i else find index_name name is) (fresh_index name)).slots
    by true t rest =
        let p = sum_by-cons (gains (of name)) i is in
        let q = all_count name i.name 0 i.slots h.0 t in
        let r = none_behind name i.name is h.1 l.0 t in
        omega (arith, p, q, r)
    by false t rest =
        let p = sum_by-cons (gains (of name)) i is in
        let q = all_other name i.name 0 i.slots h.0 t in
        omega (arith, p, q, rest)

pub next_number_is : (s : Catalog) (name : List ℕ) → HasAll s → AreAscending index_name s.indexes →
    next_number name (buckets (slots_in s.indexes name)) s.ledger ≡ length (slots_in s.indexes name)
next_number_is s name h l =
    let p = h.entries (of name) in
    let q = counted name s.indexes h.sound l in
    omega (arith, p, q)
