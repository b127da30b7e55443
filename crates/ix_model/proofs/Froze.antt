-- The new entries of the ledger say which buckets are frozen now, and were not before.
use Rattle.std.proofs.Common.{◌≡◌, ◌≤◌, ℕ, zero, suc, ◌==◌, ◌&&◌, Bool, true, false, List, [], ◌∷◌, ◌++◌, map, length, refl, sym, ap, ◌∙◌}
use Rattle.std.proofs.Common.{arith, append_assoc, append-nil}
use Rattle.std.specs.Prelude.{Option, Some, None, if◌then◌else◌, option_to_list, filter, slice_get, bytes_eq}
use Rattle.std.specs.List.{AllByRecursion, sum_by}
use Rattle.std.specs.Option.{option_map}
use Rattle.std.specs.Ordering.{int_eq}
use Rattle.std.proofs.lemmas.Bool.{eqb-true}
use Rattle.std.proofs.lemmas.Bool.Decides.{Decides-eqb, Decides-int_eq}
use Rattle.std.proofs.lemmas.Slice.Eq.{bytes_eq-Decides}
use Rattle.std.proofs.lemmas.List.Elements.{filter-append}
use Rattle.std.proofs.lemmas.List.Sums.{sum_by-cons, sum_by-append}
use denote.Enum.Bare.{sameb, same_true, true_same}
use Rattle.ix_manifest.specs.Book.{NamedItems, NoneUnder, named, is_same, after_item, replay}
use Rattle.ix_manifest.proofs.Renaming.{chosen_other}
use Rattle.ix_items.specs.contracts.items.Rule as rule
use Rattle.ix_items.specs.declared.items.Entry.{Entry}
use Rattle.ix_items.specs.declared.items.Item.TheVariants as items
use Rattle.ix_model.specs.Buckets.{Standing, live, frozen, Slot, entered}
use Rattle.ix_model.specs.Followed.{StaysFrozen, AreFollowed}
use Rattle.ix_model.specs.Keeping as kept
use Rattle.ix_model.specs.Ledger.{IsWhole, is_of}
use Rattle.ix_model.specs.State.{State, slots_in}
use Rattle.ix_model.proofs.Ledgers.{same_length}
use Rattle.ix_model.proofs.Named.{by_test}
use Rattle.ix_model.specs.Books.{entered_at, entry_in}
use Rattle.ix_model.proofs.Saying.{both_true}

true_false : true ≡ false → ⊥
true_false e = cc

none_some : {X : Type 0} {x : X} → None ≡ Some x → ⊥
none_some e = cc

some_same : {X : Type 0} (x y : X) → Some x ≡ Some y → x ≡ y
some_same x y e = cc

-- ---- two entries are the same where all their fields are

abbrev same_archive : Option ℕ → Option ℕ → Bool
same_archive None None = true
same_archive None (Some b) = false
same_archive (Some a) None = false
same_archive (Some a) (Some b) = a == b

archive_is : (x y : Option ℕ) → same_archive x y ≡ true → x ≡ y
archive_is None None e = refl
archive_is None (Some b) e = absurd (true_false (sym e))
archive_is (Some a) None e = absurd (true_false (sym e))
archive_is (Some a) (Some b) e = ap Some (eqb-true a b e)

is_archive : (x : Option ℕ) → same_archive x x ≡ true
is_archive None = refl
is_archive (Some a) = (Decides-eqb a a).1 refl

abbrev same_entry : Entry → Entry → Bool
same_entry e f =
    bytes_eq e.index f.index && ((e.id == f.id) && (sameb rule.the_type e.rule f.rule && (int_eq e.moment f.moment && ((e.count == f.count)
    && (int_eq e.newest f.newest && (int_eq e.oldest f.oldest && ((e.bytes == f.bytes) && same_archive e.archive f.archive)))))))

entry_is : (e f : Entry) → same_entry e f ≡ true → e ≡ f
entry_is e f h =
    let a = both_true (bytes_eq e.index f.index) _ h in
    let b = both_true (e.id == f.id) _ a.1 in
    let c = both_true (sameb rule.the_type e.rule f.rule) _ b.1 in
    let d = both_true (int_eq e.moment f.moment) _ c.1 in
    let g = both_true (e.count == f.count) _ d.1 in
    let i = both_true (int_eq e.newest f.newest) _ g.1 in
    let j = both_true (int_eq e.oldest f.oldest) _ i.1 in
    let k = both_true (e.bytes == f.bytes) _ j.1 in
    let index : e.index ≡ f.index = (bytes_eq-Decides e.index f.index).0 a.0 in
    let id : e.id ≡ f.id = eqb-true e.id f.id b.0 in
    let its_rule : e.rule ≡ f.rule = same_true rule.the_type tt e.rule f.rule c.0 in
    let moment : e.moment ≡ f.moment = (Decides-int_eq e.moment f.moment).0 d.0 in
    let count : e.count ≡ f.count = eqb-true e.count f.count g.0 in
    let newest : e.newest ≡ f.newest = (Decides-int_eq e.newest f.newest).0 i.0 in
    let oldest : e.oldest ≡ f.oldest = (Decides-int_eq e.oldest f.oldest).0 j.0 in
    let bytes : e.bytes ≡ f.bytes = eqb-true e.bytes f.bytes k.0 in
    let archive : e.archive ≡ f.archive = archive_is e.archive f.archive k.1 in
    λ n. record {
      index = index n;
      id = id n;
      rule = its_rule n;
      moment = moment n;
      count = count n;
      newest = newest n;
      oldest = oldest n;
      bytes = bytes n;
      archive = archive n;
    }

and_is : (a b : Bool) → a ≡ true → b ≡ true → (a && b) ≡ true
and_is true b e f = f
and_is false b e f = absurd (true_false (sym e))

is_entry : (e : Entry) → same_entry e e ≡ true
is_entry e =
    and_is _ _ ((bytes_eq-Decides e.index e.index).1 refl)
    (and_is _ _ ((Decides-eqb e.id e.id).1 refl)
    (and_is _ _ (true_same rule.the_type e.rule e.rule refl)
    (and_is _ _ ((Decides-int_eq e.moment e.moment).1 refl)
    (and_is _ _ ((Decides-eqb e.count e.count).1 refl)
    (and_is _ _ ((Decides-int_eq e.newest e.newest).1 refl)
    (and_is _ _ ((Decides-int_eq e.oldest e.oldest).1 refl)
    (and_is _ _ ((Decides-eqb e.bytes e.bytes).1 refl) (is_archive e.archive))))))))

-- ---- each entry of the ledger is that of its bucket

same_entered : (o : Option Slot) → kept.entered_at o ≡ entered_at o
same_entered None = refl
same_entered (Some s) = refl

abbrev one_if : Bool → ℕ
one_if b = if b then 1 else 0

abbrev just : Entry → Entry → ℕ
just e f = one_if (same_entry e f)

abbrev its : Entry → List Entry → List Entry
its e es = filter (is_of e.index e.id) es

own_of : (e : Entry) → is_of e.index e.id e ≡ true
own_of e = and_is _ _ ((bytes_eq-Decides e.index e.index).1 refl) ((Decides-eqb e.id e.id).1 refl)

found_once : (e : Entry) (front rest : List Entry) → 1 ≤ sum_by (just e) (its e (front ++ e ∷ rest))
found_once e front rest =
    let a = ap (sum_by (just e)) (filter-append (is_of e.index e.id) front (e ∷ rest)) in
    let b = sum_by-append (just e) (its e front) (its e (e ∷ rest)) in
    let first : its e (e ∷ rest) ≡ e ∷ its e rest = rw (own_of e) refl in
    let c = ap (sum_by (just e)) first in
    let d = sum_by-cons (just e) e (its e rest) in
    let f : just e e ≡ 1 = ap one_if (is_entry e) in
    omega (arith, a, b, c, d, f)

only_one : (e : Entry) (o : Option Entry) → 1 ≤ sum_by (just e) (option_to_list o) → o ≡ Some e
only_one e None h = absurd (omega (arith, h))
only_one e (Some x) h =
    by_test (same_entry e x)
    (λ t. ap Some (sym (entry_is e x t)))
    (λ t. absurd (let a : just e x ≡ 0 = ap one_if t in let b = sum_by-cons (just e) x [] in omega (arith, h, a, b)))

pub ledger_entered : (m : State) (front rest : List Entry) (e : Entry) → IsWhole m → m.catalog.ledger ≡ front ++ e ∷ rest →
    entry_in m e.index e.id ≡ Some e
ledger_entered m front rest e whole is =
    let a = whole.each e.index e.id (just e) in
    let b = ap (λ (es : List Entry). sum_by (just e) (its e es)) is in
    let c = found_once e front rest in
    sym (same_entered (slice_get (slots_in m.catalog.indexes e.index) e.id))
    ∙ only_one e (kept.entered_at (slice_get (slots_in m.catalog.indexes e.index) e.id)) (omega (arith, a, b, c))

pub all_entered : (m : State) (front rest : List Entry) → IsWhole m → m.catalog.ledger ≡ front ++ rest →
    AllByRecursion (λ (e : Entry). entry_in m e.index e.id ≡ Some e) rest
all_entered m front [] whole is = tt
all_entered m front (e ∷ rest) whole is = (
  ledger_entered m front rest e whole is,
  all_entered m (front ++ e ∷ []) rest whole (is ∙ sym (append_assoc front (e ∷ []) rest)),
)

-- ---- where no new entry is that of a bucket, its entry stays

stays_entered : (slots later : List Slot) (k : ℕ) (e : Entry) → AreFollowed slots later → entered_at (slice_get slots k) ≡ Some e →
    entered_at (slice_get later k) ≡ Some e
stays_entered [] later k e h is = absurd (nothing is)
  where
    nothing : None ≡ Some e → ⊥
    nothing q = cc
stays_entered (s ∷ slots) [] k e h is = absurd h
stays_entered (s ∷ slots) (t ∷ later) zero e h is = by s.standing h.0.stays is
  where
    by : (standing : Standing) → StaysFrozen s.events standing t → entered standing ≡ Some e → entered t.standing ≡ Some e
    by (live b) g k = absurd (none_some k)
    by (frozen f other) g k = g.1 ∙ k
stays_entered (s ∷ slots) (t ∷ later) (suc k) e h is = stays_entered slots later k e h.1 is

none_of : (index : List ℕ) (id : ℕ) (es : List Entry) → NoneUnder (named 8 index id) (map items.Ledger es) → filter (is_of index id) es ≡ []
none_of index id [] h = refl
none_of index id (e ∷ es) h = let t : is_of index id e ≡ false = h.0 in rw t (none_of index id es h.1)

both_or_none : (a b : Option Entry) → length (option_to_list a) ≡ length (option_to_list b) → ((e : Entry) → a ≡ Some e → b ≡ Some e) →
    a ≡ b
both_or_none None None n k = refl
both_or_none None (Some y) n k = absurd (omega (arith, n))
both_or_none (Some x) b n k = sym (k x refl)

pub entry_stays : (m later : State) (more : List Entry) (index : List ℕ) (id : ℕ) → IsWhole m → IsWhole later →
    later.catalog.ledger ≡ m.catalog.ledger ++ more →
    AreFollowed (slots_in m.catalog.indexes index) (slots_in later.catalog.indexes index) →
    NoneUnder (named 8 index id) (map items.Ledger more) →
    entry_in m index id ≡ entry_in later index id
entry_stays m later more index id g h grows follow none =
    let old = filter (is_of index id) m.catalog.ledger in
    let same : filter (is_of index id) later.catalog.ledger ≡ old =
    ap (filter (is_of index id)) grows ∙ filter-append (is_of index id) m.catalog.ledger more
    ∙ ap (λ (es : List Entry). old ++ es) (none_of index id more none) ∙ append-nil old in
    let x = slice_get (slots_in m.catalog.indexes index) id in
    let y = slice_get (slots_in later.catalog.indexes index) id in
    let a = same_length (filter (is_of index id) m.catalog.ledger) (option_to_list (kept.entered_at x)) (g.each index id) in
    let b = same_length (filter (is_of index id) later.catalog.ledger) (option_to_list (kept.entered_at y)) (h.each index id) in
    let c = ap (λ (o : Option Entry). length (option_to_list o)) (same_entered x) in
    let d = ap (λ (o : Option Entry). length (option_to_list o)) (same_entered y) in
    let e = ap (λ (es : List Entry). length es) same in
    both_or_none (entry_in m index id) (entry_in later index id) (omega (arith, a, b, c, d, e))
    (λ f is. stays_entered (slots_in m.catalog.indexes index) (slots_in later.catalog.indexes index) id f follow is)

-- ---- what the new entries lead to

pub entries_lead : (later : State) (index : List ℕ) (id : ℕ) (es : List Entry) (book : NamedItems) →
    AllByRecursion (λ (e : Entry). entry_in later e.index e.id ≡ Some e) es →
    (NoneUnder (named 8 index id) (map items.Ledger es) → book (named 8 index id) ≡ option_map items.Ledger (entry_in later index id)) →
    replay (map items.Ledger es) book (named 8 index id) ≡ option_map items.Ledger (entry_in later index id)
entries_lead later index id [] book all h = h tt
entries_lead later index id (e ∷ es) book all h =
    entries_lead later index id es (after_item (items.Ledger e) book) all.1
    (λ none. by_test (is_same (named 8 e.index e.id) (named 8 index id))
    (λ t. rw t (sym (its_own t)))
    (λ t. chosen_other (is_same (named 8 e.index e.id) (named 8 index id)) (Some (items.Ledger e)) (book (named 8 index id)) t
    ∙ h (t, none)))
  where
    its_own : is_same (named 8 e.index e.id) (named 8 index id) ≡ true →
        option_map items.Ledger (entry_in later index id) ≡ Some (items.Ledger e)
    its_own t =
        let two = both_true (bytes_eq e.index index) (e.id == id) t in
        let i : e.index ≡ index = (bytes_eq-Decides e.index index).0 two.0 in
        let n : e.id ≡ id = eqb-true e.id id two.1 in
        ap (option_map items.Ledger) (sym (λ k. entry_in later (i k) (n k)) ∙ all.0)
