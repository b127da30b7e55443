-- The buckets of an index, by their numbers, are those that are seen of it.
use Rattle.std.proofs.Common.{◌≡◌, ℕ, suc, ◌≤◌, ◌<◌, Bool, true, false, List, [], ◌∷◌, ◌++◌, map, refl, sym, ap, subst, ◌∙◌, arith}
use Rattle.std.specs.Prelude.{Option, Some, None, if◌then◌else◌, bytes_eq, option_to_list, nat_lt}
use Rattle.std.specs.Ordering.{nat_cmp, is_lt}
use Rattle.std.specs.declared.cmp.Ordering.TheVariants.{Less}
use Rattle.std.specs.Cmp.Lexicographic.{slice_cmp}
use Rattle.std.specs.List.{AllByRecursion, AllZip, filter_map, cons_option, flat_map}
use Rattle.std.specs.List.Sorted.{IsPermutation}
use Rattle.std.proofs.lemmas.Bool.Decides.{nat_tests}
use Rattle.std.proofs.lemmas.Cmp.{nat_cmp_total}
use Rattle.std.proofs.lemmas.List.{append-nil}
use Rattle.std.proofs.lemmas.List.Elements.{filter_map-append}
use Rattle.std.proofs.lemmas.List.Sorted.{IsPermutation-trans, ranks_by}
use Rattle.ix_bounds.specs.Shelving.{IsBucketed, AreIndexes}
use Rattle.ix_bounds.specs.Shelving.{AreSettings as HasLimits}
use Rattle.ix_bounds.specs.declared.shelving.Bucketed.{Bucketed}
use Rattle.ix_items.specs.declared.items.Bucket.{Bucket}
use Rattle.ix_items.specs.declared.items.Kept.{Kept}
use Rattle.ix_life.specs.declared.sets.LimitSet.{LimitSet}
use Rattle.ix_life.specs.declared.views.IndexView.{IndexView}
use Rattle.ix_model.specs.Buckets.{Slot, Index, listed, buckets}
use Rattle.ix_model.specs.State.{index_name}
use Rattle.ix_model.specs.Sums.{AreSoundFrom, IsSound}
use Rattle.ix_model.proofs.Named.{by_test, same_bytes, bytes_same}
use Rattle.ix_model.proofs.Ascending.{less_other}
use Rattle.ix_catalog.specs.Lists.{stands_before, AreAscending}
use Rattle.ix_model.specs.Shelved.{shelved_indexes}
use Rattle.ix_recovery.proofs.Slots.{listed_id}
use Rattle.ix_recovery.specs.declared.gathering.Placed.{Placed}
use Rattle.ix_recovery.specs.Recalled.{itself, AreSorted, bucket_of, bucket_id, IsListed, IsIndexOf, AreShelved}
use Rattle.ix_recovery.specs.Standing.{placed_in}
use Rattle.ix_recovery.proofs.Shuffles.{picked_moved, Climbs, sorted_same}

true_false : true ≡ false → ⊥
true_false e = cc

-- ---- names

-- things in the order of their names climb
pub names_climb : {X : Type 0} (name_of : X → List ℕ) (xs : List X) → AreAscending name_of xs → Climbs (stands_before name_of) xs
names_climb name_of [] h = tt
names_climb name_of (x ∷ xs) h = (all xs h.0, names_climb name_of xs h.1)
  where
    all : (ys : List _) → AllByRecursion (λ y. slice_cmp nat_cmp (name_of x) (name_of y) ≡ Less) ys →
        AllByRecursion (λ y. stands_before name_of x y ≡ true) ys
    all [] h = tt
    all (y ∷ ys) h = (ap is_lt h.0, all ys h.1)

-- and so do their names
pub mapped_climb : {X Y : Type 0} (name_of : X → List ℕ) (f : X → Y) (name : Y → List ℕ) → ((x : X) → name (f x) ≡ name_of x) →
    (xs : List X) → AreAscending name_of xs →
    AreAscending name (map f xs)
mapped_climb name_of f name same [] h = tt
mapped_climb name_of f name same (x ∷ xs) h = (all xs h.0, mapped_climb name_of f name same xs h.1)
  where
    all : (ys : List _) → AllByRecursion (λ y. slice_cmp nat_cmp (name_of x) (name_of y) ≡ Less) ys →
        AllByRecursion (λ z. slice_cmp nat_cmp (name (f x)) (name z) ≡ Less) (map f ys)
    all [] h = tt
    all (y ∷ ys) h = ((λ i. slice_cmp nat_cmp (same x i) (same y i)) ∙ h.0, all ys h.1)

-- ---- numbers of buckets

abbrev by_number : Bucket → Bucket → Bool
by_number a b = is_lt (nat_cmp (bucket_id a) (bucket_id b))

below : (m n : ℕ) → m < n → is_lt (nat_cmp m n) ≡ true
below m n h =
    let test : nat_lt m n ≡ true = grind (arith, nat_tests) in
    rw test refl

record ClimbFrom (n : ℕ) (bs : List Bucket) : Type 0 where
  from : AllByRecursion (λ b. n ≤ b.id) bs
  climb : Climbs by_number bs

from_less : (m n : ℕ) (bs : List Bucket) → m ≤ n → AllByRecursion (λ b. n ≤ b.id) bs → AllByRecursion (λ b. m ≤ b.id) bs
from_less m n [] h all = tt
from_less m n (b ∷ bs) h all = (let k = all.0 in omega (arith, h, k), from_less m n bs h all.1)

all_above : (b : Bucket) (n : ℕ) (bs : List Bucket) → b.id < n → AllByRecursion (λ x. n ≤ x.id) bs →
    AllByRecursion (λ x. by_number b x ≡ true) bs
all_above b n [] h all = tt
all_above b n (x ∷ bs) h all = (let k = all.0 in below b.id x.id (omega (arith, h, k)), all_above b n bs h all.1)

buckets_climb : (index : List ℕ) (n : ℕ) (slots : List Slot) → AreSoundFrom index n slots → ClimbFrom n (buckets slots)
buckets_climb index n [] sound = record { from = tt; climb = tt }
buckets_climb index n (s ∷ slots) sound = by (listed s.standing) refl (buckets_climb index (suc n) slots sound.1)
  where
    by : (o : Option Bucket) → listed s.standing ≡ o → ClimbFrom (suc n) (buckets slots) → ClimbFrom n (option_to_list o ++ buckets slots)
    by None e rest = record { from = from_less n (suc n) (buckets slots) (omega arith) rest.from; climb = rest.climb }
    by (Some b) e rest =
        let id = listed_id index n s b sound.0 e in
        record {
          from = (omega (arith, id), from_less n (suc n) (buckets slots) (omega arith) rest.from);
          climb = (all_above b (suc n) (buckets slots) (omega (arith, id)) rest.from, rest.climb);
        }

-- ---- those of an index among those of all

own : (name : List ℕ) (bs : List Bucket) → filter_map (bucket_of name) (map (λ (b : Bucket). record { index = name; bucket = b }) bs) ≡ bs
own name [] = refl
own name (b ∷ bs) =
    ap (λ (t : Bool). cons_option (if t then Some b else None)
    (filter_map (bucket_of name) (map (λ (c : Bucket). record { index = name; bucket = c }) bs))) (bytes_same name name refl)
    ∙ ap (λ l. b ∷ l) (own name bs)

others : (other name : List ℕ) (bs : List Bucket) → bytes_eq other name ≡ false →
    filter_map (bucket_of name) (map (λ (b : Bucket). record { index = other; bucket = b }) bs) ≡ []
others other name [] apart = refl
others other name (b ∷ bs) apart =
    ap (λ (t : Bool). cons_option (if t then Some b else None)
    (filter_map (bucket_of name) (map (λ (c : Bucket). record { index = other; bucket = c }) bs))) apart
    ∙ others other name bs apart

turned : (a b : List ℕ) → bytes_eq a b ≡ false → bytes_eq b a ≡ false
turned a b apart =
    by_test (bytes_eq b a)
    (λ t. absurd (true_false (sym (bytes_same a b (sym (same_bytes b a t))) ∙ apart)))
    (λ t. t)

none_later : (name : List ℕ) (is : List Index) → AllByRecursion (λ (j : Index). slice_cmp nat_cmp name j.name ≡ Less) is →
    filter_map (bucket_of name) (flat_map placed_in is) ≡ []
none_later name [] h = refl
none_later name (j ∷ is) h =
    filter_map-append (bucket_of name) (placed_in j) (flat_map placed_in is)
    ∙ ap (λ l. l ++ filter_map (bucket_of name) (flat_map placed_in is))
    (others j.name name (buckets j.slots) (turned name j.name (less_other name j.name h.0)))
    ∙ none_later name is h.1

-- each of the indexes has its own
abbrev HasOwn : List Index → Index → Type 0
HasOwn all i = filter_map (bucket_of i.name) (flat_map placed_in all) ≡ buckets i.slots

behind_own : (j : Index) (is some : List Index) → AllByRecursion (λ (i : Index). slice_cmp nat_cmp j.name i.name ≡ Less) some →
    AllByRecursion (HasOwn is) some →
    AllByRecursion (HasOwn (j ∷ is)) some
behind_own j is [] less h = tt
behind_own j is (i ∷ some) less h = (
  filter_map-append (bucket_of i.name) (placed_in j) (flat_map placed_in is)
      ∙ ap (λ l. l ++ filter_map (bucket_of i.name) (flat_map placed_in is))
      (others j.name i.name (buckets j.slots) (less_other j.name i.name less.0)) ∙ h.0,
  behind_own j is some less.1 h.1,
)

have_own : (is : List Index) → AreAscending index_name is → AllByRecursion (HasOwn is) is
have_own [] h = tt
have_own (j ∷ is) h = (
  filter_map-append (bucket_of j.name) (placed_in j) (flat_map placed_in is)
      ∙ (λ i. own j.name (buckets j.slots) i ++ none_later j.name is h.0 i) ∙ append-nil (buckets j.slots),
  behind_own j is is h.0 (have_own is h.1),
)

-- ---- all indexes

module _ (all : List Index) (placed : List Placed) (moved : IsPermutation (flat_map placed_in all) placed) where
  one_index : (i : Index) → IsSound i → HasOwn all i → IsIndexOf placed i.name i
  one_index i sound own = record {
    name_is = refl;
    buckets_are = λ given are.
        sorted_same by_number (ranks_by nat_cmp_total bucket_id) (buckets i.slots) given
        (IsPermutation-trans (buckets i.slots) (filter_map (bucket_of i.name) placed) given
        (subst (λ l. IsPermutation l (filter_map (bucket_of i.name) placed)) own
        (picked_moved (bucket_of i.name) (flat_map placed_in all) placed moved)) are.same)
        are.rising (buckets_climb i.name 0 i.slots sound).climb;
  }

  some_indexes : (is : List Index) → AllByRecursion IsSound is → AllByRecursion (HasOwn all) is →
      AllZip (IsIndexOf placed) (map index_name is) is
  some_indexes [] sound own = tt
  some_indexes (i ∷ is) sound own = (one_index i sound.0 own.0, some_indexes is sound.1 own.1)

pub are_indexes : (all : List Index) (placed : List Placed) → AreAscending index_name all → AllByRecursion IsSound all →
    IsPermutation (flat_map placed_in all) placed →
    AllZip (IsIndexOf placed) (map index_name all) all
are_indexes all placed ascending sound moved = some_indexes all placed moved all sound (have_own all ascending)

-- ---- indexes that were listed

listed_zip : (placed : List Placed) (names : List (List ℕ)) (given : List Bucketed) (all : List Index) →
    AllZip (IsListed placed) names given →
    AllZip (IsIndexOf placed) names all → AllZip IsBucketed all given
listed_zip placed [] [] [] listed indexes = tt
listed_zip placed [] [] (i ∷ all) listed indexes = absurd indexes
listed_zip placed [] (b ∷ given) all listed indexes = absurd listed
listed_zip placed (name ∷ names) [] all listed indexes = absurd listed
listed_zip placed (name ∷ names) (b ∷ given) [] listed indexes = absurd indexes
listed_zip placed (name ∷ names) (b ∷ given) (i ∷ all) listed indexes = (
  record { name = listed.0.name_is ∙ sym indexes.0.name_is; buckets = indexes.0.buckets_are b.buckets listed.0.buckets_are },
  listed_zip placed names given all listed.1 indexes.1,
)

pub shelved_so : (given sorted : List (List ℕ)) (placed : List Placed) (set : LimitSet) (listed : List Bucketed) (views : List IndexView) →
    AreSorted itself given sorted →
    AllZip (IsListed placed) sorted listed →
    ((force : List Kept) (all : List Index) → HasLimits force set → AreIndexes all listed → views ≡ shelved_indexes force all) →
    AreShelved given placed set views
shelved_so given sorted placed set listed views in_order zipped shelves = record {
  sorted = sorted;
  in_order = in_order;
  seen = λ force all limits indexes names ascending.
      shelves force all limits (record {
        names = names;
        zipped = listed_zip placed sorted listed all zipped indexes;
        ascending = ascending;
      });
}
