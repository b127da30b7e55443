-- Two lists of buckets are merged by their numbers.
use Rattle.std.proofs.Common.{◌≡◌, ◌≢◌, ◌==◌, ◌<◌, ◌≤◌, ◌+◌, ◌-◌, ℕ, List, [], ◌∷◌, ◌++◌, Bool, true, false, if◌then◌else◌, refl, sym, ap}
use Rattle.std.proofs.Common.{subst, ◌∙◌, length, take, drop, get_or, nat_lt, arith, append-nil, append_assoc}
use Rattle.std.proofs.lemmas.Bool.Decides.{nat_tests}
use Rattle.std.proofs.lemmas.List.{length-drop, take_all}
use Rattle.ix_items.specs.declared.items.Bucket.{Bucket}
use Rattle.ix_items.specs.declared.items.Item.{Item}
use Rattle.ix_items.specs.declared.items.Item.TheVariants as items
use Rattle.std.specs.List.{AllByRecursion}
use Rattle.ix_items.specs.Spelling.{HasSpelling}
use Rattle.ix_catalog.specs.Changes.{changed, comes_first, is_same, HasPut, with_number}
use Rattle.ix_catalog.proofs.Same.{same_decides}

-- the merge at two first buckets
abbrev pub at_two : List ℕ → Bucket → List Bucket → Bucket → List Bucket → Bool → Bool → List Item
at_two name b bs c cs same less =
    if same then (if is_same b c then [] else items.Bucket name c ∷ []) ++ changed name bs cs
    else if less then items.Gone name b.id ∷ changed name bs (c ∷ cs)
    else items.Bucket name c ∷ changed name (b ∷ bs) cs

pub two_is : (name : List ℕ) (b : Bucket) (bs : List Bucket) (c : Bucket) (cs : List Bucket) (same less : Bool) → (b.id == c.id) ≡ same →
    nat_lt b.id c.id ≡ less
    → changed name (b ∷ bs) (c ∷ cs) ≡ at_two name b bs c cs same less
two_is name b bs c cs same less s l i = at_two name b bs c cs (s i) (l i)

pub gone_first : (name : List ℕ) (old new : List Bucket) (d : Bucket) → comes_first old new ≡ true →
    changed name old new ≡ items.Gone name (get_or old 0 d).id ∷ changed name (drop 1 old) new
gone_first name [] new d first = absurd cc
gone_first name (b ∷ bs) [] d first = refl
gone_first name (b ∷ bs) (c ∷ cs) d first = two_is name b bs c cs false true (grind (arith, nat_tests)) first

pub made_first : (name : List ℕ) (old new : List Bucket) (d : Bucket) → comes_first new old ≡ true →
    changed name old new ≡ items.Bucket name (get_or new 0 d) ∷ changed name old (drop 1 new)
made_first name old [] d first = absurd cc
made_first name [] (c ∷ cs) d first = refl
made_first name (b ∷ bs) (c ∷ cs) d first = two_is name b bs c cs false false (grind (arith, nat_tests)) (grind (arith, nat_tests))

-- a bucket that comes first is there
pub first_some : (bs cs : List Bucket) → comes_first bs cs ≡ true → 0 < length bs
first_some [] cs first = absurd cc
first_some (b ∷ bs) cs first = omega arith

pub gone_put : (name : List ℕ) (old new : List Bucket) (d : Bucket) (before after : List Item) → comes_first old new ≡ true
    → after ≡ before ++ items.Gone name (get_or old 0 d).id ∷ [] → HasSpelling (items.Gone name (get_or old 0 d).id) →
    HasPut name old new (drop 1 old) new before after
gone_put name old new d before after first put proper =
    record { done = items.Gone name (get_or old 0 d).id ∷ []; put = put; proper = (proper, tt); whole = gone_first name old new d first }

pub made_put : (name : List ℕ) (old new : List Bucket) (d : Bucket) (before after : List Item) → comes_first new old ≡ true
    → after ≡ before ++ items.Bucket name (get_or new 0 d) ∷ [] → HasSpelling (items.Bucket name (get_or new 0 d)) →
    HasPut name old new old (drop 1 new) before after
made_put name old new d before after first put proper =
    record { done = items.Bucket name (get_or new 0 d) ∷ []; put = put; proper = (proper, tt); whole = made_first name old new d first }

-- neither comes first: both lists have a first bucket, of one number
pub both_long : (old new : List Bucket) → 0 < length old + length new → comes_first old new ≡ false → comes_first new old ≡ false →
    (0 < length old) × (0 < length new)
both_long [] [] some f g = absurd (omega (arith, some))
both_long [] (c ∷ cs) some f g = absurd cc
both_long (b ∷ bs) [] some f g = absurd cc
both_long (b ∷ bs) (c ∷ cs) some f g = (omega arith, omega arith)

pub both_first : (name : List ℕ) (old new : List Bucket) (d e : Bucket) → 0 < length old → 0 < length new → comes_first old new ≡ false →
    comes_first new old ≡ false
    → changed name old new ≡ (if is_same (get_or old 0 d) (get_or new 0 e) then [] else items.Bucket name (get_or new 0 e) ∷ [])
    ++ changed name (drop 1 old) (drop 1 new)
both_first name [] new d e some also f g = absurd (omega (arith, some))
both_first name (b ∷ bs) [] d e some also f g = absurd cc
both_first name (b ∷ bs) (c ∷ cs) d e some also f g = two_is name b bs c cs true false (grind (arith, nat_tests)) f

-- a bucket that has not changed gives nothing
pub same_gives : (b c : Bucket) → b ≡ c → is_same b c ≡ true
same_gives b c is = (same_decides b c).1 is

pub other_gives : (b c : Bucket) → (b ≢ c) → is_same b c ≡ false
other_gives b c other = go (is_same b c) refl
  where
    go : (t : Bool) → is_same b c ≡ t → is_same b c ≡ false
    go true is = absurd (other ((same_decides b c).0 is))
    go false is = is

pub kept_put : (name : List ℕ) (old new : List Bucket) (d e : Bucket) (before : List Item) → 0 < length old + length new →
    comes_first old new ≡ false → comes_first new old ≡ false
    → get_or old 0 d ≡ get_or new 0 e → HasPut name old new (drop 1 old) (drop 1 new) before before
kept_put name old new d e before some f g same =
    let long = both_long old new some f g in
    record {
      done = [];
      put = sym (append-nil before);
      proper = tt;
      whole = both_first name old new d e long.0 long.1 f g
          ∙ ap (λ (t : Bool). (if t then [] else items.Bucket name (get_or new 0 e) ∷ [])
          ++ changed name (drop 1 old) (drop 1 new)) (same_gives _ _ same);
    }

any_first : (bs : List Bucket) (d e : Bucket) → 0 < length bs → get_or bs 0 d ≡ get_or bs 0 e
any_first [] d e some = absurd (omega (arith, some))
any_first (b ∷ bs) d e some = refl

pub changed_put : (name : List ℕ) (old new : List Bucket) (d e f : Bucket) (before after : List Item) → 0 < length old + length new →
    comes_first old new ≡ false → comes_first new old ≡ false
    → (get_or old 0 d ≢ get_or new 0 e) → after ≡ before ++ items.Bucket name (get_or new 0 f) ∷ [] →
    HasSpelling (items.Bucket name (get_or new 0 f)) → HasPut name old new (drop 1 old) (drop 1 new) before after
changed_put name old new d e f before after some first second other put proper =
    let long = both_long old new some first second in
    record {
      done = items.Bucket name (get_or new 0 f) ∷ [];
      put = put;
      proper = (proper, tt);
      whole = both_first name old new d e long.0 long.1 first second
          ∙ ap (λ (t : Bool). (if t then [] else items.Bucket name (get_or new 0 e) ∷ [])
          ++ changed name (drop 1 old) (drop 1 new)) (other_gives _ _ other)
          ∙ ap (λ (b : Bucket). items.Bucket name b ∷ changed name (drop 1 old) (drop 1 new)) (any_first new e f long.1);
    }

pub all_behind : (P : Item → Type 0) (xs ys : List Item) → AllByRecursion P xs → AllByRecursion P ys → AllByRecursion P (xs ++ ys)
all_behind P [] ys a b = b
all_behind P (x ∷ xs) ys a b = (a.0, all_behind P xs ys a.1 b)

pub put_on : {name : List ℕ} {a b c d e f : List Bucket} {x y z : List Item} → HasPut name a b c d x y → HasPut name c d e f y z →
    HasPut name a b e f x z
put_on {name} {a} {b} {c} {d} {e} {f} {x} {y} {z} p q = record {
  done = p.done ++ q.done;
  put = q.put ∙ ap (λ (l : List Item). l ++ q.done) p.put ∙ append_assoc x p.done q.done;
  proper = all_behind HasSpelling p.done q.done p.proper q.proper;
  whole = p.whole ∙ ap (λ (l : List Item). p.done ++ l) q.whole ∙ sym (append_assoc p.done q.done (changed name e f));
}

-- what is left of a list behind its first so many elements
rest_is : {X : Type 0} (xs : List X) (n : ℕ) → take (length xs - n) (drop n xs) ≡ drop n xs
rest_is xs n = take_all (length xs - n) (drop n xs) (omega (arith, length-drop n xs))

pub rest_short : {X : Type 0} (xs : List X) (n most : ℕ) → length xs ≤ most → length (take (length xs - n) (drop n xs)) ≤ most
rest_short xs n most short = omega (arith, length-drop n xs, ap length (rest_is xs n))

pub rest_put : (name : List ℕ) (old new olds news : List Bucket) (gone made : ℕ) (before now after : List Item) →
    HasPut name old new olds news before now
    → HasPut name olds news (drop gone olds) (drop made news) now after
    → HasPut name old new (take (length olds - gone) (drop gone olds)) (take (length news - made) (drop made news)) before after
rest_put name old new olds news gone made before now after so_far more =
    subst (λ (l : List Bucket). HasPut name old new l (take (length news - made) (drop made news)) before after) (sym (rest_is olds gone))
    (subst (λ (l : List Bucket). HasPut name old new (drop gone olds) l before after) (sym (rest_is news made)) (put_on so_far more))

pub rest_less : (olds news : List Bucket) (gone made : ℕ) → gone ≤ length olds → made ≤ length news → 0 < gone + made
    → length (take (length olds - gone) (drop gone olds)) + length (take (length news - made) (drop made news)) < length olds + length news
rest_less olds news gone made a b some =
    omega (arith, length-drop gone olds, ap length (rest_is olds gone), length-drop made news, ap length (rest_is news made))

-- a list that is seen to be empty
pub none_of : {X : Type 0} (xs : List X) (is : Bool) → is ≡ (length xs == 0) → is ≡ true → length xs ≡ 0
none_of xs is e empty = grind (arith, nat_tests)

pub none_put : (name : List ℕ) (old new : List Bucket) (before : List Item) → HasPut name old new old new before before
none_put name old new before = record { done = []; put = sym (append-nil before); proper = tt; whole = refl }

-- nothing is left of either list
pub all_put : (name : List ℕ) (old new olds news : List Bucket) (before after : List Item) → length olds ≡ 0 → length news ≡ 0 →
    HasPut name old new olds news before after
    → (after ≡ before ++ changed name old new) × AllByRecursion HasSpelling (changed name old new)
all_put name old new [] [] before after l k p =
    let is : changed name old new ≡ p.done = p.whole ∙ append-nil p.done in
    (p.put ∙ ap (λ (l : List Item). before ++ l) (sym is), subst (AllByRecursion HasSpelling) (sym is) p.proper)
all_put name old new (b ∷ bs) news before after l k p = absurd (omega (arith, l))
all_put name old new [] (c ∷ cs) before after l k p = absurd (omega (arith, k))

-- ---- whether anything changed

pub unchanged : (name : List ℕ) (bs : List Bucket) → changed name bs bs ≡ []
unchanged name [] = refl
unchanged name (b ∷ bs) =
    two_is name b bs b bs true false (grind (arith, nat_tests)) (grind (arith, nat_tests))
    ∙ ap (λ (t : Bool). (if t then [] else items.Bucket name b ∷ []) ++ changed name bs bs) (same_gives b b refl) ∙ unchanged name bs

nothing : (name : List ℕ) (old new : List Bucket) → changed name old new ≡ [] → old ≡ new
nothing name [] [] none = refl
nothing name [] (c ∷ cs) none = absurd cc
nothing name (b ∷ bs) [] none = absurd cc
nothing name (b ∷ bs) (c ∷ cs) none = by (nothing name bs cs) (b.id == c.id) refl
  where
    kept : (changed name bs cs ≡ [] → bs ≡ cs) → (t : Bool) → is_same b c ≡ t → (if t then [] else items.Bucket name c ∷ [])
        ++ changed name bs cs ≡ [] → b ∷ bs ≡ c ∷ cs
    kept rest true is e = λ i. (same_decides b c).0 is i ∷ rest e i
    kept rest false is e = absurd cc

    apart : (less : Bool) → at_two name b bs c cs false less ≡ [] → ⊥
    apart true e = cc
    apart false e = cc

    by : (changed name bs cs ≡ [] → bs ≡ cs) → (t : Bool) → (b.id == c.id) ≡ t → b ∷ bs ≡ c ∷ cs
    by rest true is =
        kept rest (is_same b c) refl (sym (two_is name b bs c cs true (nat_lt b.id c.id) is refl) ∙ none)
    by rest false is = absurd (apart (nat_lt b.id c.id) (sym (two_is name b bs c cs false (nat_lt b.id c.id) is refl) ∙ none))

some_number : (name : List ℕ) (number : ℕ) (xs : List Item) → (xs ≢ []) → with_number name number xs ≡ items.NextId name number ∷ xs
some_number name number [] some = absurd (some refl)
some_number name number (x ∷ xs) some = refl

pub numbered : (name : List ℕ) (number : ℕ) (old new : List Bucket) → (old ≢ new) →
    with_number name number (changed name old new) ≡ items.NextId name number ∷ changed name old new
numbered name number old new other = some_number name number (changed name old new) (λ none. other (nothing name old new none))

pub unnumbered : (name : List ℕ) (number : ℕ) (old new : List Bucket) → old ≡ new → with_number name number (changed name old new) ≡ []
unnumbered name number old new same = ap (λ (bs : List Bucket). with_number name number (changed name bs new)) same
    ∙ ap (with_number name number) (unchanged name new)
