-- Lists that are changed at a place, or that one more is put into.
use Rattle.std.proofs.Common.{◌≡◌, ◌<◌, ◌≤◌, ◌+◌, ℕ, zero, suc, Bool, true, false, List, [], ◌∷◌, ◌++◌, refl, sym, ap, subst, ◌∙◌, length}
use Rattle.std.proofs.Common.{take, drop, set, map, get_or, Some, append_assoc, nat_lt, arith}
use Rattle.std.specs.Prelude.{if◌then◌else◌, slice_get, bytes_eq}
use Rattle.std.proofs.lemmas.Bool.Decides.{nat_tests}
use Rattle.std.proofs.lemmas.List.{append-nil, drop_more, drop_all, take_more, take_all, take-append-drop, length-take-le, length-map}
use Rattle.std.proofs.lemmas.List.{length-append, map-append, get_or_at, set_at, set-set}
use Rattle.ix_items.specs.declared.items.Bucket.{Bucket}
use Rattle.ix_life.specs.declared.views.IndexView.{IndexView}
use Rattle.ix_catalog.specs.Lists.{find, change}
use Rattle.ix_catalog.specs.Places.{IsPlaceOf, HasNone}
use Rattle.ix_catalog.specs.Shelves.{view_name, with_buckets}
use Rattle.ix_catalog.specs.Turning.{insert_id}

-- ---- places

some_at : {A : Type 0} (xs : List A) (i : ℕ) (d : A) → i < length xs → slice_get xs i ≡ Some (get_or xs i d)
some_at [] i d l = absurd (omega arith)
some_at (x ∷ xs) zero d l = refl
some_at (x ∷ xs) (suc i) d l = some_at xs i d (omega arith)

pub one_at : {A : Type 0} (xs : List A) (i : ℕ) (x y : A) → slice_get xs i ≡ Some x → slice_get xs i ≡ Some y → x ≡ y
one_at xs i x y e f = cc

-- a write, as the list is cut there
set_cut : {A : Type 0} (xs : List A) (i : ℕ) (d y : A) → i < length xs → set xs i y ≡ take i xs ++ y ∷ drop (i + 1) xs
set_cut xs i d y l =
    ap (λ zs. set zs i y) (sym (take-append-drop i xs) ∙ ap (λ r. take i xs ++ r) (drop_more xs i d l))
    ∙ set_at (take i xs) (get_or xs i d) (drop (i + 1) xs) y i (length-take-le i xs (omega arith))

pub twice : {A : Type 0} (xs ys : List A) (i : ℕ) (x y : A) → ys ≡ set xs i x → set ys i y ≡ set xs i y
twice xs ys i x y e = ap (λ l. set l i y) e ∙ set-set xs i x y

-- one more place of a list at each of whose places f is taken
pub mapped_step : {A : Type 0} (f : A → A) (xs ys : List A) (i : ℕ) (x y : A) → i < length xs → ys ≡ map f (take i xs) ++ drop i xs
    → slice_get ys i ≡ Some x → y ≡ f x → set ys i y ≡ map f (take (i + 1) xs) ++ drop (i + 1) xs
mapped_step f xs ys i x y l e there is =
    let front = map f (take i xs) in
    let z = get_or xs i x in
    let rest = drop (i + 1) xs in
    let cut : ys ≡ front ++ z ∷ rest = e ∙ ap (λ r. front ++ r) (drop_more xs i x l) in
    let short : length front ≡ i = length-map (take i xs) f ∙ length-take-le i xs (omega arith) in
    let same : x ≡ z =
    one_at (front ++ z ∷ rest) i x z (ap (λ r. slice_get r i) (sym cut) ∙ there)
    (some_at (front ++ z ∷ rest) i x (simp length-append (omega arith)) ∙ ap (λ w. Some w) (get_or_at front z rest x i short)) in
    let more : map f (take (i + 1) xs) ≡ front ++ f z ∷ [] = ap (map f) (take_more xs i x l) ∙ map-append f (take i xs) (z ∷ []) in
    ap (λ r. set r i y) cut ∙ set_at front z rest y i short ∙ ap (λ w. front ++ w ∷ rest) (is ∙ ap f same)
    ∙ sym (append_assoc front (f z ∷ []) rest) ∙ ap (λ r. r ++ rest) (sym more)

pub mapped_end : {A : Type 0} (f : A → A) (xs ys : List A) (i : ℕ) → length xs ≤ i → ys ≡ map f (take i xs) ++ drop i xs → ys ≡ map f xs
mapped_end f xs ys i l e =
    e ∙ ap (λ r. map f r ++ drop i xs) (take_all i xs l) ∙ ap (λ r. map f xs ++ r) (drop_all i xs l) ∙ append-nil (map f xs)

present : {A : Type 0} (xs : List A) (i : ℕ) → i < length xs → (x : A) × (slice_get xs i ≡ Some x)
present [] i l = absurd (omega arith)
present (x ∷ xs) zero l = (x, refl)
present (x ∷ xs) (suc i) l = present xs i (omega arith)

-- an index is taken out and put back with other buckets
pub put_back : (xs zs new : List IndexView) (i : ℕ) (view v : IndexView) (bs : List Bucket) (g : IndexView → List Bucket)
    → slice_get xs i ≡ Some view → ((w : IndexView) → set zs i w ≡ set xs i w) → slice_get xs i ≡ Some v
    → new ≡ set zs i (with_buckets bs view) → bs ≡ g view → new ≡ set xs i (with_buckets (g v) v)
put_back xs zs new i view v bs g there others h n e =
    n ∙ others (with_buckets bs view) ∙ ap (λ l. set xs i (with_buckets l view)) e
    ∙ ap (λ y. set xs i (with_buckets (g y) y)) (one_at xs i view v there h)

-- what was read at a place is what is taken out there
pub same_view : (xs ys : List IndexView) (i : ℕ) (x view : IndexView) → i < length xs → ys ≡ xs → x ≡ get_or ys i x →
    slice_get xs i ≡ Some view → x ≡ view
same_view xs ys i x view l e is there =
    one_at xs i x view (some_at xs i x l ∙ ap (λ y. Some y) (sym (is ∙ ap (λ r. get_or r i x) e))) there

-- ---- an index of a name

-- the test of a name that was read
pub named_so : (name z : List ℕ) (xs : List IndexView) (i : ℕ) (x : IndexView) (b : Bool) → z ≡ (get_or xs i x).name → x ≡ get_or xs i x →
    b ≡ bytes_eq z name
    → bytes_eq x.name name ≡ b
named_so name z xs i x b e is t = ap (λ (y : IndexView). bytes_eq y.name name) is ∙ ap (λ y. bytes_eq y name) (sym e) ∙ sym t

pub find_later : (name : List ℕ) (xs : List IndexView) (i : ℕ) (x : IndexView) → i < length xs → x ≡ get_or xs i x →
    bytes_eq x.name name ≡ false
    → find view_name name (drop i xs) ≡ find view_name name (drop (i + 1) xs)
find_later name xs i x l is e =
    ap (find view_name name) (drop_more xs i x l ∙ ap (λ y. y ∷ drop (i + 1) xs) (sym is))
    ∙ ap (λ (b : Bool). if b then Some x else find view_name name (drop (i + 1) xs)) e

pub change_later : (name : List ℕ) (f : IndexView → IndexView) (xs : List IndexView) (i : ℕ) (x : IndexView) → i < length xs →
    x ≡ get_or xs i x
    → bytes_eq x.name name ≡ false
    → take (i + 1) xs ++ change view_name name f (drop (i + 1) xs) ≡ take i xs ++ change view_name name f (drop i xs)
change_later name f xs i x l is e =
    let rest = change view_name name f (drop (i + 1) xs) in
    let more : take (i + 1) xs ≡ take i xs ++ x ∷ [] = take_more xs i x l ∙ ap (λ y. take i xs ++ y ∷ []) (sym is) in
    let here : change view_name name f (drop i xs) ≡ x ∷ rest =
    ap (change view_name name f) (drop_more xs i x l ∙ ap (λ y. y ∷ drop (i + 1) xs) (sym is))
    ∙ ap (λ (b : Bool). if b then f x ∷ drop (i + 1) xs else x ∷ rest) e in
    ap (λ r. r ++ rest) more ∙ append_assoc (take i xs) (x ∷ []) rest ∙ ap (λ r. take i xs ++ r) (sym here)

pub place_here : (name : List ℕ) (xs : List IndexView) (i : ℕ) (x : IndexView) → i < length xs → x ≡ get_or xs i x →
    bytes_eq x.name name ≡ true
    → find view_name name (drop i xs) ≡ find view_name name xs
    → ((f : IndexView → IndexView) → take i xs ++ change view_name name f (drop i xs) ≡ change view_name name f xs)
    → IsPlaceOf name xs i
place_here name xs i x l is e found changed =
    let cut : drop i xs ≡ x ∷ drop (i + 1) xs = drop_more xs i x l ∙ ap (λ y. y ∷ drop (i + 1) xs) (sym is) in
    let there : slice_get xs i ≡ Some x = some_at xs i x l ∙ ap (λ y. Some y) (sym is) in
    record {
      within = l;
      found = sym found ∙ ap (find view_name name) cut ∙ ap (λ (b : Bool). if b then Some x else find view_name name (drop (i + 1) xs)) e
          ∙ sym there;
      changed = λ f v h.
          sym (changed f) ∙ ap (λ r. take i xs ++ change view_name name f r) cut
          ∙ ap (λ (b : Bool). take i xs ++ (if b then f x ∷ drop (i + 1) xs else x ∷ change view_name name f (drop (i + 1) xs))) e
          ∙ ap (λ y. take i xs ++ f y ∷ drop (i + 1) xs) (one_at xs i x v there h) ∙ sym (set_cut xs i x (f v) l);
    }

pub changed_at : (name name' : List ℕ) (xs ys new : List IndexView) (i : ℕ) (f : IndexView → IndexView) → name' ≡ name → ys ≡ xs →
    IsPlaceOf name' ys i
    → ((v : IndexView) → slice_get xs i ≡ Some v → new ≡ set xs i (f v)) → new ≡ change view_name name f xs
changed_at name name' xs ys new i f n e place is =
    let P : List IndexView → Type 0 = λ l. IsPlaceOf name' l i in
    let here : IsPlaceOf name' xs i = subst P e place in
    let p = present xs i here.within in
    is p.0 p.1 ∙ sym (here.changed f p.0 p.1) ∙ ap (λ a. change view_name a f xs) n

pub place_none : (name : List ℕ) (xs : List IndexView) (i : ℕ) → length xs ≤ i
    → find view_name name (drop i xs) ≡ find view_name name xs
    → ((f : IndexView → IndexView) → take i xs ++ change view_name name f (drop i xs) ≡ change view_name name f xs)
    → HasNone name xs
place_none name xs i l found changed = record {
  found = sym found ∙ ap (find view_name name) (drop_all i xs l);
  changed = λ f.
      sym (changed f) ∙ ap (λ r. take i xs ++ change view_name name f r) (drop_all i xs l) ∙ append-nil (take i xs) ∙ take_all i xs l;
}

-- ---- one bucket more

not_below : (a b c : ℕ) → a ≤ b → c ≡ a → nat_lt b c ≡ false
not_below a b c l e = grind (arith, nat_tests)

is_below : (a b c : ℕ) → b < a → c ≡ a → nat_lt b c ≡ true
is_below a b c l e = grind (arith, nat_tests)

pub insert_here : (id : ℕ) (xs : List Bucket) (i : ℕ) (d : Bucket) → i < length xs → id ≤ (get_or xs i d).id → (b : Bucket) → b.id ≡ id
    → take i xs ++ insert_id b (drop i xs) ≡ insert_id b xs → insert_id b xs ≡ take i xs ++ b ∷ drop i xs
insert_here id xs i d l low b is known =
    let x = get_or xs i d in
    let rest = drop (i + 1) xs in
    let here : insert_id b (drop i xs) ≡ b ∷ drop i xs =
    ap (insert_id b) (drop_more xs i d l) ∙ ap (λ (t : Bool). if t then x ∷ insert_id b rest else b ∷ x
    ∷ rest) (not_below id x.id b.id low is)
    ∙ ap (λ r. b ∷ r) (sym (drop_more xs i d l)) in
    sym known ∙ ap (λ r. take i xs ++ r) here

pub insert_later : (id : ℕ) (xs : List Bucket) (i : ℕ) (d : Bucket) → i < length xs → (get_or xs i d).id < id → (b : Bucket) → b.id ≡ id
    → take i xs ++ insert_id b (drop i xs) ≡ insert_id b xs → take (i + 1) xs ++ insert_id b (drop (i + 1) xs) ≡ insert_id b xs
insert_later id xs i d l low b is known =
    let x = get_or xs i d in
    let rest = drop (i + 1) xs in
    let here : insert_id b (drop i xs) ≡ x ∷ insert_id b rest =
    ap (insert_id b) (drop_more xs i d l) ∙ ap (λ (t : Bool). if t then x ∷ insert_id b rest else b ∷ x
    ∷ rest) (is_below id x.id b.id low is) in
    ap (λ r. r ++ insert_id b rest) (take_more xs i d l) ∙ append_assoc (take i xs) (x ∷ []) (insert_id b rest)
    ∙ ap (λ r. take i xs ++ r) (sym here) ∙ known

pub insert_end : (xs : List Bucket) (i : ℕ) → length xs ≤ i → (b : Bucket)
    → take i xs ++ insert_id b (drop i xs) ≡ insert_id b xs → insert_id b xs ≡ take i xs ++ b ∷ drop i xs
insert_end xs i l b known =
    sym known ∙ ap (λ r. take i xs ++ insert_id b r) (drop_all i xs l) ∙ ap (λ r. take i xs ++ b ∷ r) (sym (drop_all i xs l))
