-- Why a bucket cannot be brought back, by the ledger and by what is seen of its index.
use Rattle.std.proofs.Common.{◌≡◌, ◌<◌, ℕ, zero, suc, ◌+◌, Bool, true, false, List, [], ◌∷◌, ◌++◌, refl, sym, ap, ◌∙◌, arith}
use Rattle.std.specs.Prelude.{Option, Some, None, is_some, if◌then◌else◌, ◌||◌, ◌==◌, option_to_list, slice_get, unwrap_or, filter}
use Rattle.std.specs.List.{AllByRecursion, sum_by}
use Rattle.std.specs.Option.{option_map}
use Rattle.std.proofs.lemmas.Bool.Decides.{Decides-eqb}
use Rattle.std.proofs.lemmas.List.Sums.{sum_by-cons}
use Rattle.ix_base.specs.declared.events.Event.{Event}
use Rattle.ix_items.specs.declared.items.Bucket.{Bucket}
use Rattle.ix_items.specs.declared.items.Entry.{Entry}
use Rattle.ix_items.specs.declared.items.Kept.{Kept}
use Rattle.ix_model.specs.Buckets.{Standing, live, frozen, Slot, Index, listed, entered, buckets}
use Rattle.ix_model.specs.Judged.{by_thawed, by_standing, by_slot}
use Rattle.ix_model.specs.Keeping.{entered_at}
use Rattle.ix_model.specs.Ledger.{AreSame, is_of}
use Rattle.ix_model.specs.Shown.{index_view}
use Rattle.ix_model.specs.State.{index_name, fresh_index, slots_in}
use Rattle.ix_model.specs.Sums.{IsStandingOf, AreSoundFrom, IsSound}
use Rattle.ix_model.specs.declared.answers.Refusal.TheVariants as refusals
use Rattle.ix_model.proofs.Named.{by_test, all_found}
use Rattle.ix_catalog.specs.Lists.{find}
use Rattle.ix_catalog.specs.Shelves.{by_id}
use Rattle.ix_model.proofs.Listing.{or_fresh}
use Rattle.ix_state.specs.Causes.{entry_in, by_entry, by_view}

none_some : {X : Type 0} {x : X} → None ≡ Some x → ⊥
none_some e = cc

some_same : {X : Type 0} {x y : X} → Some x ≡ Some y → x ≡ y
some_same e = cc

-- ---- the bucket of a number

not_it : (m n : ℕ) → (m ≡ n → ⊥) → (m == n) ≡ false
not_it m n d = by_test (m == n) (λ t. absurd (d ((Decides-eqb m n).0 t))) (λ t. t)

others_passed : (id a : ℕ) (index : List ℕ) (events : List Event) (standing : Standing) (bs : List Bucket) →
    IsStandingOf index a events standing → (a ≡ id → ⊥) →
    by_id id (option_to_list (listed standing) ++ bs) ≡ by_id id bs
others_passed id a index events (live b) bs h d = rw (not_it b.id id (λ e. d (sym h.is_of.id_is ∙ e))) refl
others_passed id a index events (frozen e None) bs h d = refl
others_passed id a index events (frozen e (Some b)) bs h d = rw (not_it b.id id (λ k. d (sym h.1.is_of.id_is ∙ k))) refl

none_greater : (id a : ℕ) (index : List ℕ) (slots : List Slot) → AreSoundFrom index a slots → id < a → by_id id (buckets slots) ≡ None
none_greater id a index [] h l = refl
none_greater id a index (s ∷ slots) h l =
    others_passed id a index s.events s.standing (buckets slots) h.0 (λ e. omega (arith, e, l))
    ∙ none_greater id (suc a) index slots h.1 (omega (arith, l))

first_seen : (id a : ℕ) (index : List ℕ) (events : List Event) (standing : Standing) (slots : List Slot) →
    IsStandingOf index a events standing → AreSoundFrom index (suc a) slots → id ≡ a →
    is_some (by_id id (option_to_list (listed standing) ++ buckets slots)) ≡ is_some (listed standing)
first_seen id a index events (live b) slots h k n = rw ((Decides-eqb b.id id).1 (h.is_of.id_is ∙ sym n)) refl
first_seen id a index events (frozen e None) slots h k n = ap is_some (none_greater id (suc a) index slots k (omega (arith, n)))
first_seen id a index events (frozen e (Some b)) slots h k n = rw ((Decides-eqb b.id id).1 (h.1.is_of.id_is ∙ sym n)) refl

bucket_seen : (id a j : ℕ) (index : List ℕ) (slots : List Slot) (s : Slot) → AreSoundFrom index a slots → slice_get slots j ≡ Some s →
    id ≡ a + j →
    is_some (by_id id (buckets slots)) ≡ is_some (listed s.standing)
bucket_seen id a j index [] s h p n = absurd (none_some p)
bucket_seen id a zero index (x ∷ slots) s h p n =
    first_seen id a index x.events x.standing slots h.0 h.1 (omega (arith, n))
    ∙ ap (λ (y : Slot). is_some (listed y.standing)) (some_same p)
bucket_seen id a (suc j) index (x ∷ slots) s h p n =
    ap is_some (others_passed id a index x.events x.standing (buckets slots) h.0 (λ q. omega (arith, q, n)))
    ∙ bucket_seen id (suc a) j index slots s h.1 p (omega (arith, n))

standing_cause : (standing : Standing) (is_seen : Bool) → is_seen ≡ is_some (listed standing) →
    by_entry (entered standing) is_seen ≡ by_standing standing
standing_cause (live b) is_seen h = refl
standing_cause (frozen e thawed) is_seen h = ap (by_thawed e.archive) h

slot_cause : (index : List ℕ) (id : ℕ) (slots : List Slot) (o : Option Slot) → AreSoundFrom index 0 slots → slice_get slots id ≡ o →
    by_entry (entered_at o) (is_some (by_id id (buckets slots))) ≡ by_slot o
slot_cause index id slots None h p = refl
slot_cause index id slots (Some s) h p =
    standing_cause s.standing (is_some (by_id id (buckets slots)))
    (bucket_seen id 0 id index slots s h p (let e : id ≡ 0 + id = omega arith in e))

-- ---- the entry of a bucket

abbrev number_of : Option ℕ → ℕ
number_of None = 0
number_of (Some n) = 1

abbrev one : Entry → ℕ
one e = 1

abbrev first_entry : List Entry → Option Entry
first_entry [] = None
first_entry (e ∷ es) = Some e

entry_first : (index : List ℕ) (id : ℕ) (es : List Entry) → entry_in index id es ≡ first_entry (filter (is_of index id) es)
entry_first index id [] = refl
entry_first index id (e ∷ es) = by_test (is_of index id e) (λ t. rw t refl) (λ t. rw t (entry_first index id es))

zero_one : (n : ℕ) → number_of None ≡ number_of (Some n) → ⊥
zero_one n e = omega (arith, e)

none_one : 0 ≡ 0 + 1 → ⊥
none_one e = omega (arith, e)

more_none : (n : ℕ) → 1 + n ≡ 0 → ⊥
more_none n e = omega (arith, e)

two_one : (n : ℕ) → 1 + (1 + n) ≡ 0 + 1 → ⊥
two_one n e = omega (arith, e)

plain : (a b : ℕ) → 0 + a ≡ 0 + b → a ≡ b
plain a b e = omega (arith, e)

same_archive : (a b : Option ℕ) (t : Bool) → number_of a ≡ number_of b → by_thawed a t ≡ by_thawed b t
same_archive None None t h = refl
same_archive None (Some y) t h = absurd (zero_one y h)
same_archive (Some x) None t h = absurd (zero_one x (sym h))
same_archive (Some x) (Some y) t h = refl

by_same : (f : List Entry) (o : Option Entry) (t : Bool) → AreSame f (option_to_list o) → by_entry (first_entry f) t ≡ by_entry o t
by_same [] None t h = refl
by_same (x ∷ xs) None t h = absurd (more_none (sum_by one xs) (sym (sum_by-cons one x xs) ∙ h one))
by_same [] (Some e) t h = absurd (none_one (h one))
by_same (x ∷ []) (Some e) t h = same_archive x.archive e.archive t
    (plain (number_of x.archive) (number_of e.archive) (h (λ (y : Entry). number_of y.archive)))
by_same (x ∷ y ∷ ys) (Some e) t h =
    absurd (two_one (sum_by one ys) (sym (sum_by-cons one x (y ∷ ys) ∙ ap (λ (n : ℕ). 1 + n) (sum_by-cons one y ys)) ∙ h one))

-- ---- a Thaw

slots_cause : (ledger : List Entry) (index : List ℕ) (id : ℕ) (name : List ℕ) (slots : List Slot) → AreSoundFrom name 0 slots →
    AreSame (filter (is_of index id) ledger) (option_to_list (entered_at (slice_get slots id))) →
    by_entry (entry_in index id ledger) (is_some (by_id id (buckets slots))) ≡ by_slot (slice_get slots id)
slots_cause ledger index id name slots h a =
    ap (λ (o : Option Entry). by_entry o (is_some (by_id id (buckets slots)))) (entry_first index id ledger)
    ∙ by_same (filter (is_of index id) ledger) (entered_at (slice_get slots id)) (is_some (by_id id (buckets slots))) a
    ∙ slot_cause name id slots (slice_get slots id) h refl

thaw_by : (force : List Kept) (ledger : List Entry) (is : List Index) (index : List ℕ) (id : ℕ) (b : Bool) (o : Option Index) →
    AllByRecursion IsSound is →
    find index_name index is ≡ o → AreSame (filter (is_of index id) ledger)
    (option_to_list (entered_at (slice_get (unwrap_or o (fresh_index index)).slots id))) →
    by_view ledger index id (option_map (index_view force) (or_fresh b index o))
    ≡ (if b || is_some o then by_slot (slice_get (unwrap_or o (fresh_index index)).slots id) else Some refusals.UnknownIndex)
thaw_by force ledger is index id true (Some i) h e a = slots_cause ledger index id i.name i.slots
    (all_found IsSound index_name index i is h e) a
thaw_by force ledger is index id false (Some i) h e a =
    slots_cause ledger index id i.name i.slots (all_found IsSound index_name index i is h e) a
thaw_by force ledger is index id true None h e a = slots_cause ledger index id index [] tt a
thaw_by force ledger is index id false None h e a = refl

pub thaw_is : (force : List Kept) (ledger : List Entry) (is : List Index) (index : List ℕ) (id : ℕ) (b : Bool) → AllByRecursion IsSound is →
    AreSame (filter (is_of index id) ledger) (option_to_list (entered_at (slice_get (slots_in is index) id))) →
    by_view ledger index id (option_map (index_view force) (or_fresh b index (find index_name index is)))
    ≡ (if b || is_some (find index_name index is) then by_slot (slice_get (slots_in is index) id) else Some refusals.UnknownIndex)
thaw_is force ledger is index id b h a = thaw_by force ledger is index id b (find index_name index is) h refl a
