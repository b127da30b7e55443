-- The items of the buckets and entries of an index: each has the number of its place.
use Rattle.std.proofs.Common.{◌≡◌, ◌≤◌, ◌<◌, ℕ, suc, ◌+◌, ◌-◌, false, List, [], ◌∷◌, ◌++◌, refl, sym, ap, ◌∙◌, arith, subst}
use Rattle.std.specs.Prelude.{Option, Some, None, option_to_list, slice_get, bytes_eq}
use Rattle.std.specs.List.{AllByRecursion, flat_map}
use Rattle.std.specs.Option.{option_map}
use Rattle.std.specs.declared.cmp.Ordering.TheVariants.{Less}
use Rattle.std.specs.Ordering.{nat_cmp}
use Rattle.std.specs.Cmp.Lexicographic.{slice_cmp}
use Rattle.ix_manifest.specs.Book.{NoneUnder, named, name_of, is_same}
use Rattle.ix_manifest.specs.Slots.{AreOnce}
use Rattle.ix_items.specs.declared.items.Bucket.{Bucket}
use Rattle.ix_items.specs.declared.items.Entry.{Entry}
use Rattle.ix_items.specs.declared.items.Item.{Item}
use Rattle.ix_items.specs.declared.items.Item.TheVariants as items
use Rattle.ix_model.specs.Buckets.{Standing, live, frozen, Slot, Index, listed, entered}
use Rattle.ix_model.specs.State.{index_name}
use Rattle.ix_model.specs.Sums.{IsStandingOf, AreSoundFrom, IsSound}
use Rattle.ix_catalog.specs.Lists.{AreAscending}
use Rattle.ix_model.proofs.Names.{less_other}
use Rattle.ix_recovery.specs.Listed.{slot_items, index_items}
use Rattle.ix_recovery.proofs.Members.{all_append, all_flat, all_from, every}
use Rattle.ix_recovery.proofs.Booked.{other_text, other_number, once_append}

none_some : {X : Type 0} {x : X} → None ≡ Some x → ⊥
none_some e = cc

some_same : {X : Type 0} {x y : X} → Some x ≡ Some y → x ≡ y
some_same e = cc

-- ---- of each bucket and entry

one_each : {X : Type 0} (P : Item → Type 0) (f : X → Item) (o : Option X) → ((x : X) → P (f x)) →
    AllByRecursion P (option_to_list (option_map f o))
one_each P f None k = tt
one_each P f (Some x) k = (k x, tt)

pub each_of : (P : Item → Type 0) → ((index : List ℕ) (b : Bucket) → P (items.Bucket index b)) → ((e : Entry) → P (items.Ledger e)) →
    (is : List Index) →
    AllByRecursion P (flat_map index_items is)
each_of P bucket entry is =
    all_flat P index_items is
    (every (λ (i : Index). AllByRecursion P (index_items i)) is (λ i. all_flat P (slot_items i.name) i.slots
    (every (λ (s : Slot). AllByRecursion P (slot_items i.name s)) i.slots
    (λ s. all_append P (option_to_list (option_map (items.Bucket i.name) (listed s.standing)))
    (option_to_list (option_map items.Ledger (entered s.standing)))
    (one_each P (items.Bucket i.name) (listed s.standing) (bucket i.name)) (one_each P items.Ledger (entered s.standing) entry)))))

-- What holds of the bucket and of the entry of each place from the first one on.
pub record AtPlaces (P : Item → Type 0) (index : List ℕ) (first : ℕ) (at : ℕ → Option Slot) : Type 0 where
  pub bucket : (n : ℕ) (s : Slot) (b : Bucket) → first ≤ n → at n ≡ Some s → listed s.standing ≡ Some b → b.id ≡ n →
      P (items.Bucket index b)
  pub entry : (n : ℕ) (s : Slot) (e : Entry) → first ≤ n → at n ≡ Some s → entered s.standing ≡ Some e → e.index ≡ index → e.id ≡ n →
      P (items.Ledger e)

-- so it holds of all items of the index
pub at_each : (P : Item → Type 0) (index : List ℕ) (at : ℕ → Option Slot) (a : ℕ) (slots : List Slot) → AreSoundFrom index a slots →
    ((j : ℕ) → at (a + j) ≡ slice_get slots j) → AtPlaces P index a at → AllByRecursion P (flat_map (slot_items index) slots)
at_each P index at a [] h k p = tt
at_each P index at a (s ∷ slots) h k p =
    all_append P (slot_items index s) (flat_map (slot_items index) slots) (by s.standing refl h.0)
    (at_each P index at (suc a) slots h.1
    (λ j. ap at (let e : suc a + j ≡ a + suc j = omega arith in e) ∙ k (suc j))
    (record { bucket = λ n t b l. p.bucket n t b (omega (arith, l)); entry = λ n t e l. p.entry n t e (omega (arith, l)) }))
  where
    here : at a ≡ Some s
    here = ap at (let e : a ≡ a + 0 = omega arith in e) ∙ k 0

    by : (standing : Standing) → s.standing ≡ standing → IsStandingOf index a s.events standing →
        AllByRecursion P (option_to_list (option_map (items.Bucket index) (listed standing))
        ++ option_to_list (option_map items.Ledger (entered standing)))
    by (live b) is g = (p.bucket a s b (omega arith) here (ap listed is) g.is_of.id_is, tt)
    by (frozen e None) is g = (p.entry a s e (omega arith) here (ap entered is) g.0.index_is g.0.id_is, tt)
    by (frozen e (Some b)) is g = (
      p.bucket a s b (omega arith) here (ap listed is) g.1.is_of.id_is,
      (p.entry a s e (omega arith) here (ap entered is) g.0.index_is g.0.id_is, tt),
    )

-- ---- each under a name of its own

-- from a place on there is none of a lower number
none_lower : (kind : ℕ) (text index : List ℕ) (number a : ℕ) (slots : List Slot) → AreSoundFrom index a slots → number < a →
    NoneUnder (named kind text number) (flat_map (slot_items index) slots)
none_lower kind text index number a slots h l =
    at_each (λ (x : Item). is_same (name_of x) (named kind text number) ≡ false) index (λ (n : ℕ). slice_get slots (n - a)) a slots h
    (λ j. ap (slice_get slots) (let e : (a + j) - a ≡ j = omega arith in e))
    (record {
      bucket = λ n s b m at is id. other_number 6 kind index text b.id number (λ q. omega (arith, l, m, id, q));
      entry = λ n s e m at is its id. other_number 8 kind e.index text e.id number (λ q. omega (arith, l, m, id, q));
    })

once_one : (index : List ℕ) (standing : Standing) →
    AreOnce (option_to_list (option_map (items.Bucket index) (listed standing))
    ++ option_to_list (option_map items.Ledger (entered standing)))
once_one index (live b) = (tt, tt)
once_one index (frozen e None) = (tt, tt)
once_one index (frozen e (Some b)) = ((refl, tt), (tt, tt))

once_slots : (index : List ℕ) (a : ℕ) (slots : List Slot) → AreSoundFrom index a slots → AreOnce (flat_map (slot_items index) slots)
once_slots index a [] h = tt
once_slots index a (s ∷ slots) h =
    once_append (slot_items index s) (flat_map (slot_items index) slots) (once_one index s.standing) (once_slots index (suc a) slots h.1)
    (by s.standing h.0)
  where
    none : (kind : ℕ) (text : List ℕ) (number : ℕ) → number ≡ a → NoneUnder (named kind text number) (flat_map (slot_items index) slots)
    none kind text number e = none_lower kind text index number (suc a) slots h.1 (omega (arith, e))

    by : (standing : Standing) → IsStandingOf index a s.events standing →
        AllByRecursion (λ (x : Item). NoneUnder (name_of x) (flat_map (slot_items index) slots))
        (option_to_list (option_map (items.Bucket index) (listed standing)) ++ option_to_list (option_map items.Ledger (entered standing)))
    by (live b) g = (none 6 index b.id g.is_of.id_is, tt)
    by (frozen e None) g = (none 8 e.index e.id g.0.id_is, tt)
    by (frozen e (Some b)) g = (none 6 index b.id g.1.is_of.id_is, (none 8 e.index e.id g.0.id_is, tt))

-- none of another index
none_named : (kind : ℕ) (text : List ℕ) (number : ℕ) (is : List Index) → AllByRecursion (λ (y : Index). bytes_eq text y.name ≡ false) is →
    AllByRecursion IsSound is →
    NoneUnder (named kind text number) (flat_map index_items is)
none_named kind text number [] d h = tt
none_named kind text number (i ∷ is) d h =
    all_append (λ (x : Item). is_same (name_of x) (named kind text number) ≡ false) (index_items i) (flat_map index_items is)
    (at_each (λ (x : Item). is_same (name_of x) (named kind text number) ≡ false) i.name (slice_get i.slots) 0 i.slots h.0
    (λ j. ap (slice_get i.slots) (let e : 0 + j ≡ j = omega arith in e))
    (record {
      bucket = λ n s b m at is id. other_text 6 kind text i.name b.id number d.0;
      entry = λ n s e m at is its id. other_text 8 kind text e.index e.id number (ap (bytes_eq text) its ∙ d.0);
    }))
    (none_named kind text number is d.1 h.1)

pub once_indexes : (is : List Index) → AreAscending index_name is → AllByRecursion IsSound is → AreOnce (flat_map index_items is)
once_indexes [] l h = tt
once_indexes (i ∷ is) l h =
    once_append (index_items i) (flat_map index_items is) (once_slots i.name 0 i.slots h.0) (once_indexes is l.1 h.1)
    (at_each (λ (x : Item). NoneUnder (name_of x) (flat_map index_items is)) i.name (slice_get i.slots) 0 i.slots h.0
    (λ j. ap (slice_get i.slots) (let e : 0 + j ≡ j = omega arith in e))
    (record {
      bucket = λ n s b m at q id. none_named 6 i.name b.id is others h.1;
      entry = λ n s e m at q its id. subst (λ (t : List ℕ). NoneUnder (named 8 t e.id) (flat_map index_items is)) (sym its)
          (none_named 8 i.name e.id is others h.1);
    }))
  where
    others : AllByRecursion (λ (y : Index). bytes_eq i.name y.name ≡ false) is
    others = all_from (λ (y : Index). bytes_eq i.name y.name ≡ false) (λ (y : Index). slice_cmp nat_cmp i.name y.name ≡ Less) is
        (λ y e. less_other i.name y.name e) l.0

-- ---- the numbers of a place

pub listed_id : (index : List ℕ) (n : ℕ) (s : Slot) (b : Bucket) → IsStandingOf index n s.events s.standing → listed s.standing ≡ Some b →
    b.id ≡ n
listed_id index n s b h e = by s.standing h e
  where
    by : (standing : Standing) → IsStandingOf index n s.events standing → listed standing ≡ Some b → b.id ≡ n
    by (live c) g k = ap (λ (x : Bucket). x.id) (sym (some_same k)) ∙ g.is_of.id_is
    by (frozen f None) g k = absurd (none_some k)
    by (frozen f (Some c)) g k = ap (λ (x : Bucket). x.id) (sym (some_same k)) ∙ g.1.is_of.id_is

pub entered_id : (index : List ℕ) (n : ℕ) (s : Slot) (e : Entry) → IsStandingOf index n s.events s.standing → entered s.standing ≡ Some e →
    (e.index ≡ index) × (e.id ≡ n)
entered_id index n s e h k = by s.standing h k
  where
    by : (standing : Standing) → IsStandingOf index n s.events standing → entered standing ≡ Some e → (e.index ≡ index) × (e.id ≡ n)
    by (live c) g q = absurd (none_some q)
    by (frozen f other) g q = (
      ap (λ (x : Entry). x.index) (sym (some_same q)) ∙ g.0.index_is,
      ap (λ (x : Entry). x.id) (sym (some_same q))
          ∙ g.0.id_is,
    )
