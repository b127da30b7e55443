-- A book is led from the old buckets to the new ones.
use Rattle.std.proofs.Common.{◌≡◌, ◌==◌, ◌<◌, ◌&&◌, ℕ, List, [], ◌∷◌, ◌++◌, Bool, true, false, if◌then◌else◌, Option, Some, None, refl}
use Rattle.std.proofs.Common.{sym, ap, subst, ◌∙◌, nat_lt, arith}
use Rattle.std.specs.Prelude.{bytes_eq}
use Rattle.std.specs.List.{AllByRecursion}
use Rattle.std.proofs.lemmas.Bool.{eqb-true}
use Rattle.std.proofs.lemmas.Bool.Decides.{nat_tests}
use Rattle.std.proofs.lemmas.Slice.Eq.{bytes_eq-Decides}
use Rattle.ix_items.specs.declared.items.Bucket.{Bucket}
use Rattle.ix_items.specs.declared.items.Item.{Item}
use Rattle.ix_items.specs.declared.items.Item.TheVariants as items
use Rattle.ix_manifest.specs.Book.{Name, NamedItems, NoneUnder, named, name_of, is_same as is_same_name, after_item, replay}
use Rattle.ix_manifest.proofs.InPlace.{none_under}
use Rattle.ix_catalog.specs.Changes.{changed, is_same, stood, AreRising, is_bucket_of, ChangedLeads}
use Rattle.ix_catalog.specs.Shelves.{by_id}
use Rattle.ix_catalog.proofs.Same.{same_decides}
use Rattle.ix_catalog.proofs.Merging.{at_two, two_is}

-- what holds of what each bucket may give holds of all changes
pub each : (P : Item → Type 0) (name : List ℕ) (old new : List Bucket) → AllByRecursion (λ (b : Bucket). P (items.Gone name b.id)) old →
    AllByRecursion (λ (c : Bucket). P (items.Bucket name c)) new
    → AllByRecursion P (changed name old new)
each P name [] [] gone made = tt
each P name [] (c ∷ cs) gone made = (made.0, each P name [] cs tt made.1)
each P name (b ∷ bs) [] gone made = (gone.0, each P name bs [] gone.1 tt)
each P name (b ∷ bs) (c ∷ cs) gone made =
    subst (AllByRecursion P) (sym (two_is name b bs c cs (b.id == c.id) (nat_lt b.id c.id) refl refl))
    (two (each P name bs cs gone.1 made.1) (each P name bs (c ∷ cs) gone.1 made) (each P name (b ∷ bs) cs gone made.1) (b.id == c.id)
    (nat_lt b.id c.id))
  where
    kept : (same : Bool) → AllByRecursion P (changed name bs cs) →
        AllByRecursion P ((if same then [] else items.Bucket name c ∷ []) ++ changed name bs cs)
    kept true both = both
    kept false both = (made.0, both)

    two : AllByRecursion P (changed name bs cs) → AllByRecursion P (changed name bs (c ∷ cs)) →
        AllByRecursion P (changed name (b ∷ bs) cs) → (same less : Bool)
        → AllByRecursion P (at_two name b bs c cs same less)
    two both first second true less = kept (is_same b c) both
    two both first second false true = (gone.0, first)
    two both first second false false = (made.0, second)

-- ---- names

and_false : (s t u : Bool) → (s && t) ≡ false → (s && (t && u)) ≡ false
and_false true true u h = absurd cc
and_false true false u h = refl
and_false false t u h = refl

every : {X : Type 0} (P : X → Type 0) → ((x : X) → P x) → (xs : List X) → AllByRecursion P xs
every P all [] = tt
every P all (x ∷ xs) = (all x, every P all xs)

-- none of them stands under a name of another kind or another index
pub elsewhere : (index : List ℕ) (old new : List Bucket) (name : Name) → is_bucket_of index name ≡ false →
    NoneUnder name (changed index old new)
elsewhere index old new name other =
    each (λ (x : Item). is_same_name (name_of x) name ≡ false) index old new
    (every (λ (b : Bucket). is_same_name (named 6 index b.id) name ≡ false)
    (λ b. and_false (6 == name.kind) (bytes_eq index name.text) (b.id == name.number) other) old)
    (every (λ (b : Bucket). is_same_name (named 6 index b.id) name ≡ false)
    (λ b. and_false (6 == name.kind) (bytes_eq index name.text) (b.id == name.number) other) new)

-- ---- one number

above_on : (i j : ℕ) (bs : List Bucket) → i < j → AllByRecursion (λ (c : Bucket). j < c.id) bs →
    AllByRecursion (λ (c : Bucket). i < c.id) bs
above_on i j [] less all = tt
above_on i j (b ∷ bs) less all = (omega (arith, less, all.0), above_on i j bs less all.1)

module _ (index : List ℕ) (id : ℕ) where
  abbrev here : Name
  here = named 6 index id

  test_is : (i : ℕ) → is_same_name (named 6 index i) here ≡ (i == id)
  test_is i = ap (λ (t : Bool). t && (i == id)) ((bytes_eq-Decides index index).1 refl)

  -- what stands there after an item under a number
  after_is : (i : ℕ) (t : Bool) (left old : Option Item) → (i == id) ≡ t →
      (if is_same_name (named 6 index i) here then left else old) ≡ (if t then left else old)
  after_is i t left old is = ap (λ (t : Bool). if t then left else old) (test_is i ∙ is)

  found : (t : Bool) (b : Bucket) (bs : List Bucket) → (b.id == id) ≡ t → by_id id (b ∷ bs) ≡ (if t then Some b else by_id id bs)
  found t b bs is = ap (λ (t : Bool). if t then Some b else by_id id bs) is

  none_above : (bs : List Bucket) → AllByRecursion (λ (c : Bucket). id < c.id) bs → by_id id bs ≡ None
  none_above [] above = refl
  none_above (b ∷ bs) above = found false b bs (grind (arith, nat_tests, above.0)) ∙ none_above bs above.1

  apart : (bs : List Bucket) → AllByRecursion (λ (c : Bucket). id < c.id) bs →
      AllByRecursion (λ (c : Bucket). is_same_name (named 6 index c.id) here ≡ false) bs
  apart [] above = tt
  apart (b ∷ bs) above =
      let other : (b.id == id) ≡ false = grind (arith, nat_tests, above.0) in
      (test_is b.id ∙ other, apart bs above.1)

  quiet : (old new : List Bucket) (book : NamedItems) → AllByRecursion (λ (c : Bucket). id < c.id) old →
      AllByRecursion (λ (c : Bucket). id < c.id) new → replay (changed index old new) book here ≡ book here
  quiet old new book o n = none_under (changed index old new) here book
      (each (λ (x : Item). is_same_name (name_of x) here ≡ false) index old new (apart old o) (apart new n))

  -- a bucket is gone, and the others stand
  gone_on : (b : Bucket) (bs : List Bucket) (book : NamedItems) → AllByRecursion (λ (c : Bucket). b.id < c.id) bs →
      book here ≡ stood index (by_id id (b ∷ bs))
      → after_item (items.Gone index b.id) book here ≡ stood index (by_id id bs)
  gone_on b bs book above stands = by (b.id == id) refl
    where
      by : (t : Bool) → (b.id == id) ≡ t → after_item (items.Gone index b.id) book here ≡ stood index (by_id id bs)
      by true is =
          let same : b.id ≡ id = eqb-true b.id id is in
          after_is b.id true None (book here) is ∙ sym (ap (stood index)
          (none_above bs (subst (λ (i : ℕ). AllByRecursion (λ (c : Bucket). i < c.id) bs) same above)))
      by false is = after_is b.id false None (book here) is ∙ stands ∙ ap (stood index) (found false b bs is)

  -- a bucket is put, and what follows puts the others
  made_on : (c : Bucket) (cs : List Bucket) (book : NamedItems) (rest : List Item) →
      ((book' : NamedItems) → c.id ≡ id → replay rest book' here ≡ book' here)
      → ((book' : NamedItems) → (c.id == id) ≡ false → book' here ≡ book here → replay rest book' here ≡ stood index (by_id id cs))
      → replay rest (after_item (items.Bucket index c) book) here ≡ stood index (by_id id (c ∷ cs))
  made_on c cs book rest still on = by (c.id == id) refl
    where
      by : (t : Bool) → (c.id == id) ≡ t → replay rest (after_item (items.Bucket index c) book) here ≡ stood index (by_id id (c ∷ cs))
      by true is =
          still (after_item (items.Bucket index c) book) (eqb-true c.id id is)
          ∙ after_is c.id true (Some (items.Bucket index c)) (book here) is ∙ sym (ap (stood index) (found true c cs is))
      by false is =
          on (after_item (items.Bucket index c) book) is (after_is c.id false (Some (items.Bucket index c)) (book here) is)
          ∙ sym (ap (stood index) (found false c cs is))

  abbrev Above : List Bucket → Type 0
  Above bs = AllByRecursion (λ (c : Bucket). id < c.id) bs

  above_at : (i : ℕ) (bs : List Bucket) → i ≡ id → AllByRecursion (λ (c : Bucket). i < c.id) bs → Above bs
  above_at i bs is above = subst (λ (j : ℕ). AllByRecursion (λ (c : Bucket). j < c.id) bs) is above

  other_id : (b c : Bucket) → (b.id == c.id) ≡ true → (c.id == id) ≡ false → (b.id == id) ≡ false
  other_id b c same other = ap (λ (i : ℕ). i == id) (eqb-true b.id c.id same) ∙ other

  -- both lists begin with buckets of one number
  both_on : (b : Bucket) (bs : List Bucket) (c : Bucket) (cs : List Bucket) (book : NamedItems) →
      AllByRecursion (λ (x : Bucket). b.id < x.id) bs → AllByRecursion (λ (x : Bucket). c.id < x.id) cs
      → (b.id == c.id) ≡ true → book here ≡ stood index (by_id id (b ∷ bs))
      → ((book' : NamedItems) → book' here ≡ stood index (by_id id bs) →
      replay (changed index bs cs) book' here ≡ stood index (by_id id cs))
      → (t : Bool) → is_same b c ≡ t → replay ((if t then [] else items.Bucket index c ∷ [])
      ++ changed index bs cs) book here ≡ stood index (by_id id (c ∷ cs))
  both_on b bs c cs book o n same stands on true is = by (c.id == id) refl
    where
      by : (t : Bool) → (c.id == id) ≡ t → replay (changed index bs cs) book here ≡ stood index (by_id id (c ∷ cs))
      by true at =
          let one : b ≡ c = (same_decides b c).0 is in
          let first : b.id ≡ id = eqb-true b.id c.id same ∙ eqb-true c.id id at in
          quiet bs cs book (above_at b.id bs first o) (above_at c.id cs (eqb-true c.id id at) n) ∙ stands
          ∙ ap (stood index) (found true b bs (ap (λ (x : Bucket). x.id == id) one ∙ at) ∙ ap Some one ∙ sym (found true c cs at))
      by false at =
          on book (stands ∙ ap (stood index) (found false b bs (other_id b c same at))) ∙ sym (ap (stood index) (found false c cs at))
  both_on b bs c cs book o n same stands on false is =
      made_on c cs book (changed index bs cs)
      (λ book' at. quiet bs cs book' (above_at b.id bs (eqb-true b.id c.id same ∙ at) o) (above_at c.id cs at n))
      (λ book' other told. on book' (told ∙ stands ∙ ap (stood index) (found false b bs (other_id b c same other))))

  pub lead : (old new : List Bucket) (book : NamedItems) → AreRising old → AreRising new → book here ≡ stood index (by_id id old) →
      replay (changed index old new) book here ≡ stood index (by_id id new)
  lead [] [] book o n stands = stands
  lead [] (c ∷ cs) book o n stands =
      made_on c cs book (changed index [] cs) (λ book' at. quiet [] cs book' tt (above_at c.id cs at n.0))
      (λ book' other told. lead [] cs book' tt n.1 (told ∙ stands))
  lead (b ∷ bs) [] book o n stands = lead bs [] (after_item (items.Gone index b.id) book) o.1 tt (gone_on b bs book o.0 stands)
  lead (b ∷ bs) (c ∷ cs) book o n stands =
      ap (λ (l : List Item). replay l book here) (two_is index b bs c cs (b.id == c.id) (nat_lt b.id c.id) refl refl)
      ∙ two (λ book' told. lead bs cs book' o.1 n.1 told) (λ book' told. lead bs (c ∷ cs) book' o.1 n told)
      (λ book' told. lead (b ∷ bs) cs book' o n.1 told) (b.id == c.id) (nat_lt b.id c.id) refl refl
    where
      two : ((book' : NamedItems) → book' here ≡ stood index (by_id id bs) →
          replay (changed index bs cs) book' here ≡ stood index (by_id id cs))
          → ((book' : NamedItems) → book' here ≡ stood index (by_id id bs) →
          replay (changed index bs (c ∷ cs)) book' here ≡ stood index (by_id id (c ∷ cs)))
          → ((book' : NamedItems) → book' here ≡ stood index (by_id id (b ∷ bs)) →
          replay (changed index (b ∷ bs) cs) book' here ≡ stood index (by_id id cs))
          → (same less : Bool) → (b.id == c.id) ≡ same → nat_lt b.id c.id ≡ less →
          replay (at_two index b bs c cs same less) book here ≡ stood index (by_id id (c ∷ cs))
      two both first second true less s l = both_on b bs c cs book o.0 n.0 s stands both (is_same b c) refl
      two both first second false true s l = first (after_item (items.Gone index b.id) book) (gone_on b bs book o.0 stands)
      two both first second false false s l =
          let later : c.id < b.id = grind (arith, nat_tests, s, l) in
          made_on c cs book (changed index (b ∷ bs) cs)
          (λ book' at. let this : id < b.id = omega (arith, at, later) in
          quiet (b ∷ bs) cs book' (this, above_on id b.id bs this o.0) (above_at c.id cs at n.0))
          (λ book' other told. second book' (told ∙ stands))

pub changed_leads : ChangedLeads
changed_leads index old new book o n stands = (
  λ id. lead index id old new book o n (stands id),
  λ name other.
      none_under (changed index old new) name book (elsewhere index old new name other),
)
