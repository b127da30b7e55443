-- What the files of a catalog begin with, bucket by bucket. Files have numbers of their own, so
-- each is that of one bucket.
use Rattle.std.proofs.Common.{◌≡◌, ◌<◌, ◌≤◌, ℕ, zero, suc, ◌+◌, true, false, List, [], ◌∷◌, ◌++◌, refl, sym, ap, ◌∙◌, arith, subst, inl}
use Rattle.std.proofs.Common.{inr}
use Rattle.std.specs.Prelude.{Option, Some, None, ◌⊎◌, ◌==◌, nat_le, slice_get, unwrap_or, bytes_eq}
use Rattle.std.specs.List.{AllByRecursion, flat_map, sum_by}
use Rattle.std.specs.declared.cmp.Ordering.TheVariants.{Less}
use Rattle.std.specs.Ordering.{nat_cmp}
use Rattle.std.specs.Cmp.Lexicographic.{slice_cmp}
use Rattle.std.proofs.lemmas.Bool.Decides.{Decides-eqb, nat_tests}
use Rattle.std.proofs.lemmas.List.Sums.{sum_by-cons, sum_by-append}
use Rattle.ix_base.specs.declared.events.Event.{Event}
use Rattle.ix_base.specs.declared.files.File.{File}
use Rattle.ix_bucket.specs.Record.{records}
use Rattle.ix_disk.specs.Files.{is_same, same_file, other_file}
use Rattle.ix_items.specs.declared.items.Bucket.{Bucket}
use Rattle.ix_commit.specs.Contents.{Contents}
use Rattle.ix_commit.specs.Snapshot.{Forgets}
use Rattle.ix_model.specs.Buckets.{Standing, live, frozen, Slot, Index}
use Rattle.ix_model.specs.Files.{once_if, archive_uses, bucket_uses, standing_uses, slot_uses, index_uses, uses, AreApart}
use Rattle.ix_model.specs.State.{Catalog, index_name, fresh_index, slots_in}
use Rattle.ix_model.proofs.Named.{by_test, same_bytes, bytes_same}
use Rattle.ix_model.proofs.Placing.{In}
use Rattle.ix_catalog.specs.Lists.{find, AreAscending}
use Rattle.ix_model.specs.Contents.{Filed, archived, in_bucket, filed_by, filed_slot, filed_index, filed, bytes_of, is_meta_area}
use Rattle.ix_model.specs.Contents.{contents_of}
use Rattle.ix_model.proofs.Names.{found_first, less_other}

true_false : true ≡ false → ⊥
true_false e = cc

none_some : {X : Type 0} {x : X} → None ≡ Some x → ⊥
none_some e = cc

some_same : {X : Type 0} {x y : X} → Some x ≡ Some y → x ≡ y
some_same e = cc

-- ---- things in lists

pub in_right : {X : Type 0} (x : X) (xs ys : List X) → In x ys → In x (xs ++ ys)
in_right x [] ys h = h
in_right x (y ∷ xs) ys h = inr (in_right x xs ys h)

pub in_left : {X : Type 0} (x : X) (xs ys : List X) → In x xs → In x (xs ++ ys)
in_left x [] ys h = absurd h
in_left x (y ∷ xs) ys (inl e) = inl e
in_left x (y ∷ xs) ys (inr h) = inr (in_left x xs ys h)

pub in_either : {X : Type 0} (x : X) (xs ys : List X) → In x (xs ++ ys) → In x xs ⊎ In x ys
in_either x [] ys h = inr h
in_either x (y ∷ xs) ys (inl e) = inl (inl e)
in_either {X = X} x (y ∷ xs) ys (inr h) = by (in_either x xs ys h)
  where
    by : In x xs ⊎ In x ys → In x (y ∷ xs) ⊎ In x ys
    by (inl a) = inl (inr a)
    by (inr b) = inr b

pub in_flat : {X Y : Type 0} (f : X → List Y) (x : X) (y : Y) (xs : List X) → In x xs → In y (f x) → In y (flat_map f xs)
in_flat f x y [] h k = absurd h
in_flat f x y (z ∷ xs) (inl e) k = in_left y (f z) (flat_map f xs) (subst (λ w. In y (f w)) (sym e) k)
in_flat f x y (z ∷ xs) (inr h) k = in_right y (f z) (flat_map f xs) (in_flat f x y xs h k)

pub from_flat : {X Y : Type 0} (f : X → List Y) (y : Y) (xs : List X) → In y (flat_map f xs) → (x : X) × (In x xs × In y (f x))
from_flat f y [] h = absurd h
from_flat {X = X} f y (z ∷ xs) h = by (in_either y (f z) (flat_map f xs) h) (from_flat f y xs)
  where
    by : In y (f z) ⊎ In y (flat_map f xs) → (In y (flat_map f xs) → (x : X) × (In x xs × In y (f x))) → (x : X)
        × (In x (z ∷ xs) × In y (f x))
    by (inl a) rest = (z, (inl refl, a))
    by (inr b) rest = let r = rest b in (r.0, (inr r.1.0, r.1.1))

pub placed_in : {X : Type 0} (x : X) (j : ℕ) (xs : List X) → slice_get xs j ≡ Some x → In x xs
placed_in x j [] e = absurd (none_some e)
placed_in x zero (y ∷ xs) e = inl (some_same e)
placed_in x (suc j) (y ∷ xs) e = inr (placed_in x j xs e)

pub place_of : {X : Type 0} (x : X) (xs : List X) → In x xs → (j : ℕ) × (slice_get xs j ≡ Some x)
place_of x [] h = absurd h
place_of x (y ∷ xs) (inl e) = (0, ap (λ z. Some z) e)
place_of x (y ∷ xs) (inr h) = let r = place_of x xs h in (suc r.0, r.1)

pub found_in : {X : Type 0} (name_of : X → List ℕ) (name : List ℕ) (x : X) (xs : List X) → find name_of name xs ≡ Some x → In x xs
found_in name_of name x [] e = absurd (none_some e)
found_in name_of name x (y ∷ xs) e =
    by_test (bytes_eq (name_of y) name) (λ t. inl (some_same (rw t at e))) (λ t. inr (found_in name_of name x xs (rw t at e)))

pub in_found : (i : Index) (is : List Index) → AreAscending index_name is → In i is → find index_name i.name is ≡ Some i
in_found i [] h k = absurd k
in_found i (x ∷ is) h (inl e) = subst (λ (y : Index). find index_name i.name (y ∷ is) ≡ Some i) (sym e) (found_first index_name i is)
in_found i (x ∷ is) h (inr k) = rw (less_other x.name i.name (behind is h.0 k)) (in_found i is h.1 k)
  where
    behind : (ys : List Index) → AllByRecursion (λ (y : Index). slice_cmp nat_cmp x.name y.name ≡ Less) ys → In i ys →
        slice_cmp nat_cmp x.name i.name ≡ Less
    behind [] a b = absurd b
    behind (y ∷ ys) a (inl e) = subst (λ (z : Index). slice_cmp nat_cmp x.name z.name ≡ Less) e a.0
    behind (y ∷ ys) a (inr b) = behind ys a.1 b

-- ---- a file with its events, of a bucket

abbrev pub slot_at : Catalog → List ℕ → ℕ → Option Slot
slot_at s name id = slice_get (slots_in s.indexes name) id

pub record IsFiled (s : Catalog) (f : Filed) : Type 0 where
  pub name : List ℕ
  pub id : ℕ
  pub slot : Slot
  pub at : slot_at s name id ≡ Some slot
  pub has : In f (filed_slot slot)

abbrev IsFound : List Index → List ℕ → ℕ → Slot → Type 0
IsFound is name id slot = (i : Index) × ((find index_name name is ≡ Some i) × (slice_get i.slots id ≡ Some slot))

pub slot_found : (is : List Index) (name : List ℕ) (id : ℕ) (slot : Slot) → slice_get (slots_in is name) id ≡ Some slot →
    IsFound is name id slot
slot_found is name id slot p = by (find index_name name is) refl p
  where
    by : (o : Option Index) → find index_name name is ≡ o → slice_get (unwrap_or o (fresh_index name)).slots id ≡ Some slot →
        IsFound is name id slot
    by None e q = absurd (none_some q)
    by (Some i) e q = (i, (e, q))

pub filed_in : (s : Catalog) (f : Filed) → IsFiled s f → In f (filed s)
filed_in s f h =
    let found = slot_found s.indexes h.name h.id h.slot h.at in
    in_flat filed_index found.0 f s.indexes (found_in index_name h.name found.0 s.indexes found.1.0)
    (in_flat filed_slot h.slot f found.0.slots (placed_in h.slot h.id found.0.slots found.1.1) h.has)

pub in_filed : (s : Catalog) (f : Filed) → AreAscending index_name s.indexes → In f (filed s) → IsFiled s f
in_filed s f l h =
    let i = from_flat filed_index f s.indexes h in
    let slot = from_flat filed_slot f i.0.slots i.1.1 in
    let place = place_of slot.0 i.0.slots slot.1.0 in
    record {
      name = i.0.name;
      id = place.0;
      slot = slot.0;
      at = ap (λ (o : Option Index). slice_get (unwrap_or o (fresh_index i.0.name)).slots place.0) (in_found i.0 s.indexes l i.1.0)
          ∙ place.1;
      has = slot.1.1;
    }

-- ---- how often a number is used

abbrev pub number_is : ℕ → Filed → ℕ
number_is n f = once_if n f.file.number

its_number : (f : Filed) (n : ℕ) → f.file.number ≡ n → number_is n f ≡ 1
its_number f n e = rw ((Decides-eqb f.file.number n).1 e) refl

standing_count : (n : ℕ) (events : List Event) (standing : Standing) →
    sum_by (number_is n) (filed_by events standing) ≡ standing_uses n standing
standing_count n events (live b) = omega arith
standing_count n events (frozen e thawed) =
    sum_by-append (number_is n) (archived events e.archive) (in_bucket events thawed) ∙ both e.archive thawed
  where
    both : (archive : Option ℕ) (o : Option Bucket) →
        sum_by (number_is n) (archived events archive) + sum_by (number_is n) (in_bucket events o) ≡ archive_uses n archive + bucket_uses n
        o
    both None None = refl
    both None (Some b) = omega arith
    both (Some number) None = omega arith
    both (Some number) (Some b) = omega arith

slots_count : (n : ℕ) (slots : List Slot) → sum_by (number_is n) (flat_map filed_slot slots) ≡ sum_by (slot_uses n) slots
slots_count n [] = refl
slots_count n (s ∷ slots) =
    let a = sum_by-append (number_is n) (filed_slot s) (flat_map filed_slot slots) in
    let b = standing_count n s.events s.standing in
    let c = slots_count n slots in
    let d = sum_by-cons (slot_uses n) s slots in
    omega (arith, a, b, c, d)

pub filed_count : (n : ℕ) (is : List Index) → sum_by (number_is n) (flat_map filed_index is) ≡ sum_by (index_uses n) is
filed_count n [] = refl
filed_count n (i ∷ is) =
    let a = sum_by-append (number_is n) (filed_index i) (flat_map filed_index is) in
    let b = slots_count n i.slots in
    let c = filed_count n is in
    let d = sum_by-cons (index_uses n) i is in
    omega (arith, a, b, c, d)

pub none_counted : (n : ℕ) (fs : List Filed) → ((f : Filed) → In f fs → f.file.number ≡ n → ⊥) → sum_by (number_is n) fs ≡ 0
none_counted n [] k = refl
none_counted n (f ∷ fs) k =
    let a = sum_by-cons (number_is n) f fs in
    let b : number_is n f ≡ 0 = by_test (f.file.number == n) (λ t. absurd (k f (inl refl) ((Decides-eqb f.file.number n).0 t)))
    (λ t. rw t refl) in
    let c = none_counted n fs (λ g i. k g (inr i)) in
    omega (arith, a, b, c)

in_count : (f : Filed) (fs : List Filed) → In f fs → 1 ≤ sum_by (number_is f.file.number) fs
in_count f [] h = absurd h
in_count f (x ∷ fs) (inl e) =
    let a = sum_by-cons (number_is f.file.number) x fs in
    let b = its_number x f.file.number (ap (λ (y : Filed). y.file.number) e) in
    omega (arith, a, b)
in_count f (x ∷ fs) (inr h) =
    let a = sum_by-cons (number_is f.file.number) x fs in
    let b = in_count f fs h in
    omega (arith, a, b)

pub number_used : (s : Catalog) (f : Filed) → IsFiled s f → 1 ≤ uses f.file.number s
number_used s f h =
    let a = in_count f (filed s) (filed_in s f h) in
    let b = filed_count f.file.number s.indexes in
    omega (arith, a, b)

-- the numbers of files are below the next one
pub number_below : (s : Catalog) (f : Filed) → AreApart s → IsFiled s f → f.file.number < s.next_file
number_below s f a h =
    by_test (nat_le s.next_file f.file.number)
    (λ t. (let l : s.next_file ≤ f.file.number = grind (arith, nat_tests) in
    let p = a.below f.file.number l in
    let q = number_used s f h in
    absurd (omega (arith, p, q))))
    (λ t. grind (arith, nat_tests))

-- ---- one file, one bucket

one_at : {X : Type 0} (g : X → ℕ) (x : X) (j : ℕ) (xs : List X) → slice_get xs j ≡ Some x → g x ≤ sum_by g xs
one_at g x j [] e = absurd (none_some e)
one_at g x zero (z ∷ xs) e = let a = sum_by-cons g z xs in let b = ap g (some_same e) in omega (arith, a, b)
one_at g x (suc j) (z ∷ xs) e = let a = sum_by-cons g z xs in let b = one_at g x j xs e in omega (arith, a, b)

-- two at different places
two_at : {X : Type 0} (g : X → ℕ) (x y : X) (j k : ℕ) (xs : List X) → slice_get xs j ≡ Some x → slice_get xs k ≡ Some y → (j ≡ k → ⊥) →
    g x + g y ≤ sum_by g xs
two_at g x y j k [] e f d = absurd (none_some e)
two_at g x y zero zero (z ∷ xs) e f d = absurd (d refl)
two_at g x y zero (suc k) (z ∷ xs) e f d =
    let a = sum_by-cons g z xs in
    let b = ap g (some_same e) in
    let c = one_at g y k xs f in
    omega (arith, a, b, c)
two_at g x y (suc j) zero (z ∷ xs) e f d =
    let a = sum_by-cons g z xs in
    let b = ap g (some_same f) in
    let c = one_at g x j xs e in
    omega (arith, a, b, c)
two_at g x y (suc j) (suc k) (z ∷ xs) e f d =
    let a = sum_by-cons g z xs in
    let b = two_at g x y j k xs e f (λ q. d (ap suc q)) in
    omega (arith, a, b)

named_at : (g : Index → ℕ) (i : Index) (name : List ℕ) (is : List Index) → find index_name name is ≡ Some i → g i ≤ sum_by g is
named_at g i name [] e = absurd (none_some e)
named_at g i name (x ∷ is) e =
    let a = sum_by-cons g x is in
    by_test (bytes_eq x.name name)
    (λ t. (let b = ap g (some_same (rw t at e)) in omega (arith, a, b)))
    (λ t. (let b = named_at g i name is (rw t at e) in omega (arith, a, b)))

two_named : (g : Index → ℕ) (i k : Index) (name other : List ℕ) (is : List Index) → find index_name name is ≡ Some i →
    find index_name other is ≡ Some k →
    bytes_eq name other ≡ false → g i + g k ≤ sum_by g is
two_named g i k name other [] e f d = absurd (none_some e)
two_named g i k name other (x ∷ is) e f d =
    let a = sum_by-cons g x is in
    by_test (bytes_eq x.name name)
    (λ t. by_test (bytes_eq x.name other)
    (λ u. absurd (true_false (sym (bytes_same name other (sym (same_bytes x.name name t) ∙ same_bytes x.name other u)) ∙ d)))
    (λ u. (let b = ap g (some_same (rw t at e)) in let c = named_at g k other is (rw u at f) in omega (arith, a, b, c))))
    (λ t. by_test (bytes_eq x.name other)
    (λ u. (let b = ap g (some_same (rw u at f)) in let c = named_at g i name is (rw t at e) in omega (arith, a, b, c)))
    (λ u. (let b = two_named g i k name other is (rw t at e) (rw u at f) d in omega (arith, a, b))))

slot_count : (f : Filed) (s : Slot) → In f (filed_slot s) → 1 ≤ slot_uses f.file.number s
slot_count f s h = let a = in_count f (filed_slot s) h in let b = standing_count f.file.number s.events s.standing in omega (arith, a, b)

-- where two have one number, they are of one bucket
pub record IsOneBucket {s : Catalog} {f g : Filed} (a : IsFiled s f) (b : IsFiled s g) : Type 0 where
  pub names : a.name ≡ b.name
  pub ids : a.id ≡ b.id

pub one_bucket : (s : Catalog) (f g : Filed) → AreApart s → (a : IsFiled s f) (b : IsFiled s g) → f.file.number ≡ g.file.number →
    IsOneBucket a b
one_bucket s f g apart a b e =
    let n = f.file.number in
    let most = apart.one_each n in
    let i = slot_found s.indexes a.name a.id a.slot a.at in
    let k = slot_found s.indexes b.name b.id b.slot b.at in
    let first = slot_count f a.slot a.has in
    let second : 1 ≤ slot_uses n b.slot = subst (λ (m : ℕ). 1 ≤ slot_uses m b.slot) (sym e) (slot_count g b.slot b.has) in
    by_test (bytes_eq a.name b.name)
    (λ t. (let names : a.name ≡ b.name = same_bytes a.name b.name t in
    let same : i.0 ≡ k.0 = some_same (sym i.1.0 ∙ ap (λ (m : List ℕ). find index_name m s.indexes) names ∙ k.1.0) in
    by_test (a.id == b.id)
    (λ u. record { names = names; ids = (Decides-eqb a.id b.id).0 u })
    (λ u. (let there : slice_get i.0.slots b.id ≡ Some b.slot = ap (λ (x : Index). slice_get x.slots b.id) same ∙ k.1.1 in
    let two = two_at (slot_uses n) a.slot b.slot a.id b.id i.0.slots i.1.1 there (λ q. true_false (sym ((Decides-eqb a.id b.id).1 q) ∙ u))
    in
    let all = named_at (index_uses n) i.0 a.name s.indexes i.1.0 in
    absurd (omega (arith, most, first, second, two, all))))))
    (λ t. (let one = one_at (slot_uses n) a.slot a.id i.0.slots i.1.1 in
    let other = one_at (slot_uses n) b.slot b.id k.0.slots k.1.1 in
    let two = two_named (index_uses n) i.0 k.0 a.name b.name s.indexes i.1.0 k.1.0 t in
    absurd (omega (arith, most, first, second, one, other, two))))

-- ---- what a file begins with

same_filed : (f g : Filed) (fs : List Filed) → In f fs → In g fs → f.file.number ≡ g.file.number → sum_by (number_is f.file.number) fs ≤ 1 →
    f ≡ g
same_filed f g [] h k e m = absurd h
same_filed f g (x ∷ fs) (inl p) (inl q) e m = sym p ∙ q
same_filed f g (x ∷ fs) (inl p) (inr k) e m =
    let a = sum_by-cons (number_is f.file.number) x fs in
    let b = its_number x f.file.number (ap (λ (y : Filed). y.file.number) p) in
    let c : 1 ≤ sum_by (number_is f.file.number) fs = subst (λ (n : ℕ). 1 ≤ sum_by (number_is n) fs) (sym e) (in_count g fs k) in
    absurd (omega (arith, a, b, c, m))
same_filed f g (x ∷ fs) (inr h) (inl q) e m =
    let a = sum_by-cons (number_is f.file.number) x fs in
    let b = its_number x f.file.number (ap (λ (y : Filed). y.file.number) q ∙ sym e) in
    let c = in_count f fs h in
    absurd (omega (arith, a, b, c, m))
same_filed f g (x ∷ fs) (inr h) (inr k) e m =
    let a = sum_by-cons (number_is f.file.number) x fs in
    same_filed f g fs h k e (omega (arith, a, m))

bytes_in : (f : Filed) (fs : List Filed) → In f fs → sum_by (number_is f.file.number) fs ≤ 1 → bytes_of fs f.file ≡ Some (records f.events)
bytes_in f [] h m = absurd h
bytes_in f (x ∷ fs) h m =
    by_test (is_same f.file x.file)
    (λ t. (let same : f ≡ x = same_filed f x (x ∷ fs) h (inl refl) (ap (λ (y : File). y.number) (same_file f.file x.file t)) m in
    rw t (ap (λ (y : Filed). Some (records y.events)) (sym same))))
    (λ t. (let a = sum_by-cons (number_is f.file.number) x fs in
    rw t (bytes_in f fs (rest h t) (omega (arith, a, m)))))
  where
    rest : In f (x ∷ fs) → is_same f.file x.file ≡ false → In f fs
    rest (inl e) t = absurd (other_file f.file x.file t (ap (λ (y : Filed). y.file) (sym e)))
    rest (inr k) t = k

pub bytes_there : (s : Catalog) (f : Filed) → AreApart s → IsFiled s f → is_meta_area f.file.area ≡ false →
    contents_of s f.file ≡ Some (records f.events)
bytes_there s f a h m =
    let below = number_below s f a h in
    let test : nat_le s.next_file f.file.number ≡ false = grind (arith, nat_tests) in
    let most = a.one_each f.file.number in
    let count = filed_count f.file.number s.indexes in
    rw (m, test) (bytes_in f (filed s) (filed_in s f h) (omega (arith, most, count)))

pub none_yet : (s : Catalog) (file : File) → is_meta_area file.area ≡ false → s.next_file ≤ file.number → contents_of s file ≡ Some []
none_yet s file m l = let test : nat_le s.next_file file.number ≡ true = grind (arith, nat_tests) in rw (m, test) refl

abbrev pub Says : List Filed → File → List ℕ → Type 0
Says fs file bytes = (f : Filed) × (In f fs × ((f.file ≡ file) × (records f.events ≡ bytes)))

pub says : (file : File) (bytes : List ℕ) (fs : List Filed) → bytes_of fs file ≡ Some bytes → Says fs file bytes
says file bytes [] e = absurd (none_some e)
says file bytes (x ∷ fs) e =
    by_test (is_same file x.file)
    (λ t. (x, (inl refl, (sym (same_file file x.file t), some_same (rw t at e)))))
    (λ t. (let r = says file bytes fs (rw t at e) in (r.0, (inr r.1.0, r.1.1))))

-- contents that say as much of each bucket, and of the files that are still to come
pub says_less : (old : Contents) (s : Catalog) → AreAscending index_name s.indexes →
    ((file : File) → is_meta_area file.area ≡ false → s.next_file ≤ file.number → old file ≡ Some []) →
    ((f : Filed) → IsFiled s f → is_meta_area f.file.area ≡ false → old f.file ≡ Some (records f.events)) →
    Forgets old (contents_of s)
says_less old s l coming there = λ file bytes e.
    by_test (is_meta_area file.area)
    (λ t. absurd (none_some (rw t at e)))
    (λ t. by_test (nat_le s.next_file file.number)
    (λ u. (let later : s.next_file ≤ file.number = grind (arith, nat_tests) in
    coming file t later ∙ rw (t, u) at e))
    (λ u. (let r = says file bytes (filed s) (rw (t, u) at e) in
    let area : is_meta_area r.0.file.area ≡ false = ap (λ (x : File). is_meta_area x.area) r.1.1.0 ∙ t in
    ap old (sym r.1.1.0) ∙ there r.0 (in_filed s r.0 l r.1.0) area ∙ ap (λ (x : List ℕ). Some x) r.1.1.1)))
