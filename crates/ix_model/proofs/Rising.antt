-- The buckets that are listed of an index rise by their numbers, and each is found by its number as
-- its slot is at its place.
use Rattle.std.proofs.Common.{◌≡◌, ◌<◌, ℕ, zero, suc, ◌+◌, ◌==◌, Bool, true, false, List, [], ◌∷◌, ◌++◌, map, refl, ap, ◌∙◌, arith}
use Rattle.std.specs.Prelude.{Option, Some, None, option_to_list, unwrap_or, slice_get, fold}
use Rattle.std.specs.List.{AllByRecursion}
use Rattle.std.specs.Option.{option_map}
use Rattle.std.proofs.lemmas.Bool.Decides.{Decides-eqb}
use Rattle.ix_base.specs.declared.events.Event.{Event}
use Rattle.ix_items.specs.declared.items.Bucket.{Bucket}
use Rattle.ix_items.specs.declared.items.Kept.{Kept}
use Rattle.ix_model.specs.Buckets.{Standing, live, frozen, Slot, Index, listed, buckets}
use Rattle.ix_model.specs.Shown.{configured, with_fresh, index_view}
use Rattle.ix_model.specs.State.{index_name, fresh_index, slots_in}
use Rattle.ix_model.specs.Sums.{IsStandingOf, AreSoundFrom, IsSound}
use Rattle.ix_model.proofs.Named.{by_test}
use Rattle.ix_catalog.specs.Changes.{AreRising, EachRises}
use Rattle.ix_catalog.specs.Lists.{find}
use Rattle.ix_catalog.specs.Shelves.{by_id, view_name, buckets_of, buckets_in}
use Rattle.ix_model.specs.Books.{listed_at}
use Rattle.ix_model.specs.Shelved.{shelved_indexes}
use Rattle.ix_model.proofs.Listing.{among, or_fresh, find_fresh, sound_fresh}
use Rattle.ix_model.proofs.Names.{find_map}

-- ---- by their numbers

above_first : (index : List ℕ) (n a : ℕ) (events : List Event) (standing : Standing) (bs : List Bucket) →
    IsStandingOf index a events standing → n < a →
    AllByRecursion (λ (c : Bucket). n < c.id) bs → AllByRecursion (λ (c : Bucket). n < c.id) (option_to_list (listed standing) ++ bs)
above_first index n a events (live b) bs h l rest = (let e = h.is_of.id_is in omega (arith, e, l), rest)
above_first index n a events (frozen e None) bs h l rest = rest
above_first index n a events (frozen e (Some b)) bs h l rest = (let k = h.1.is_of.id_is in omega (arith, k, l), rest)

above : (index : List ℕ) (n a : ℕ) (slots : List Slot) → AreSoundFrom index a slots → n < a →
    AllByRecursion (λ (c : Bucket). n < c.id) (buckets slots)
above index n a [] h l = tt
above index n a (s ∷ slots) h l =
    above_first index n a s.events s.standing (buckets slots) h.0 l (above index n (suc a) slots h.1 (omega (arith, l)))

id_above : (index : List ℕ) (i a : ℕ) (slots : List Slot) → AreSoundFrom index (suc a) slots → i ≡ a →
    AllByRecursion (λ (c : Bucket). i < c.id) (buckets slots)
id_above index i a slots h e = above index i (suc a) slots h (omega (arith, e))

pub rising : (index : List ℕ) (a : ℕ) (slots : List Slot) → AreSoundFrom index a slots → AreRising (buckets slots)
rising index a [] h = tt
rising index a (s ∷ slots) h = by s.standing h.0 (rising index (suc a) slots h.1)
  where
    by : (standing : Standing) → IsStandingOf index a s.events standing → AreRising (buckets slots) →
        AreRising (option_to_list (listed standing) ++ buckets slots)
    by (live b) g rest = (id_above index b.id a slots h.1 g.is_of.id_is, rest)
    by (frozen e None) g rest = rest
    by (frozen e (Some b)) g rest = (id_above index b.id a slots h.1 g.1.is_of.id_is, rest)

none_lower : (n : ℕ) (bs : List Bucket) → AllByRecursion (λ (c : Bucket). n < c.id) bs → by_id n bs ≡ None
none_lower n [] h = refl
none_lower n (b ∷ bs) h = by_test (b.id == n)
    (λ t. absurd (let e = (Decides-eqb b.id n).0 t in let l = h.0 in omega (arith, e, l)))
    (λ t. rw t (none_lower n bs h.1))

here : (n : ℕ) (b : Bucket) (bs : List Bucket) → b.id ≡ n → by_id n (b ∷ bs) ≡ Some b
here n b bs e = rw ((Decides-eqb b.id n).1 e) refl

behind : (n : ℕ) (b : Bucket) (bs : List Bucket) → (b.id ≡ n → ⊥) → by_id n (b ∷ bs) ≡ by_id n bs
behind n b bs d = by_test (b.id == n) (λ t. absurd (d ((Decides-eqb b.id n).0 t))) (λ t. rw t refl)

pub by_place : (index : List ℕ) (n a j : ℕ) (slots : List Slot) → AreSoundFrom index a slots → n ≡ a + j →
    by_id n (buckets slots) ≡ listed_at (slice_get slots j)
by_place index n a j [] h e = refl
by_place index n a zero (s ∷ slots) h e = by s.standing h.0
  where
    by : (standing : Standing) → IsStandingOf index a s.events standing →
        by_id n (option_to_list (listed standing) ++ buckets slots) ≡ listed standing
    by (live b) g = here n b (buckets slots) (let k = g.is_of.id_is in omega (arith, k, e))
    by (frozen f None) g = none_lower n (buckets slots) (above index n (suc a) slots h.1 (omega (arith, e)))
    by (frozen f (Some b)) g = here n b (buckets slots) (let k = g.1.is_of.id_is in omega (arith, k, e))
by_place index n a (suc j) (s ∷ slots) h e = by s.standing h.0 ∙ by_place index n (suc a) j slots h.1 (omega (arith, e))
  where
    by : (standing : Standing) → IsStandingOf index a s.events standing →
        by_id n (option_to_list (listed standing) ++ buckets slots) ≡ by_id n (buckets slots)
    by (live b) g = behind n b (buckets slots) (λ q. let k = g.is_of.id_is in omega (arith, k, q, e))
    by (frozen f None) g = refl
    by (frozen f (Some b)) g = behind n b (buckets slots) (λ q. let k = g.1.is_of.id_is in omega (arith, k, q, e))

-- ---- of the indexes that are seen

-- an index that is seen, by the one that is there
pub seen_by : (force : List Kept) (is : List Index) (name : List ℕ) →
    find view_name name (shelved_indexes force is) ≡ option_map (index_view force)
    (or_fresh (among (configured force) name) name (find index_name name is))
seen_by force is name =
    find_map index_name view_name (index_view force) (λ i. refl) name (fold with_fresh is (configured force))
    ∙ ap (option_map (index_view force)) (find_fresh (configured force) is name)

pub seen_buckets : (force : List Kept) (is : List Index) (name : List ℕ) →
    buckets_in name (shelved_indexes force is) ≡ buckets (slots_in is name)
seen_buckets force is name = ap buckets_of (seen_by force is name) ∙ by (among (configured force) name) (find index_name name is)
  where
    by : (b : Bool) (o : Option Index) → buckets_of (option_map (index_view force) (or_fresh b name o)) ≡ buckets
        (unwrap_or o (fresh_index name)).slots
    by b (Some i) = refl
    by true None = refl
    by false None = refl

all_seen : (force : List Kept) (is : List Index) → AllByRecursion IsSound is → EachRises (map (index_view force) is)
all_seen force [] h = tt
all_seen force (i ∷ is) h = (rising i.name 0 i.slots h.0, all_seen force is h.1)

pub seen_rise : (force : List Kept) (is : List Index) → AllByRecursion IsSound is → EachRises (shelved_indexes force is)
seen_rise force is h = all_seen force (fold with_fresh is (configured force)) (sound_fresh (configured force) is h)
