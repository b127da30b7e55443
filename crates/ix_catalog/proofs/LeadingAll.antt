-- A book is led from the buckets of all old indexes to those of the new ones.
use Rattle.std.proofs.Common.{◌≡◌, ◌==◌, ◌&&◌, ℕ, List, [], ◌∷◌, Bool, true, false, if◌then◌else◌, Option, Some, None, refl, sym, ap}
use Rattle.std.proofs.Common.{subst, ◌∙◌}
use Rattle.std.specs.Prelude.{bytes_eq}
use Rattle.std.specs.List.{AllByRecursion, flat_map}
use Rattle.std.proofs.lemmas.Slice.Eq.{bytes_eq-Decides}
use Rattle.ix_items.specs.declared.items.Entry.{Entry}
use Rattle.ix_items.specs.declared.items.Item.{Item}
use Rattle.ix_items.specs.declared.items.Item.TheVariants as items
use Rattle.ix_life.specs.declared.views.IndexView.{IndexView}
use Rattle.ix_manifest.specs.Book.{Name, NamedItems, NoneUnder, named, name_of, is_same, after_item, replay}
use Rattle.ix_manifest.proofs.Applying.{replay_behind}
use Rattle.ix_manifest.proofs.InPlace.{none_under}
use Rattle.ix_manifest.proofs.Renaming.{replay_at, chosen_other}
use Rattle.ix_catalog.specs.Changes.{changed, with_number, index_changes, stood, AreRising, is_bucket_of, NamesDiffer, EachRises}
use Rattle.ix_catalog.specs.Changes.{KeepsIndexes, number_left, number_after, ChangesLead}
use Rattle.ix_catalog.specs.Lists.{find}
use Rattle.ix_catalog.specs.Shelves.{by_id, view_name, buckets_of, buckets_in, next_number}
use Rattle.ix_catalog.proofs.Finding.{equal_names, found}
use Rattle.ix_catalog.proofs.Leading.{elsewhere, lead}
use Rattle.ix_catalog.proofs.Merging.{all_behind}

Other : Name → Item → Type 0
Other name item = is_same (name_of item) name ≡ false

-- ---- names of indexes

other_way : (a b : List ℕ) → bytes_eq a b ≡ false → bytes_eq b a ≡ false
other_way a b other = by (bytes_eq b a) refl
  where
    by : (t : Bool) → bytes_eq b a ≡ t → bytes_eq b a ≡ false
    by true is = let turned = (bytes_eq-Decides a b).1 (sym (equal_names b a is)) in absurd cc
    by false is = is

no_other : (name : List ℕ) (vs : List IndexView) → AllByRecursion (λ (w : IndexView). bytes_eq name w.name ≡ false) vs →
    find view_name name vs ≡ None
no_other name [] others = refl
no_other name (v ∷ vs) others = found false name v vs (other_way name v.name others.0) ∙ no_other name vs others.1

rises_in : (name : List ℕ) (vs : List IndexView) → EachRises vs → AreRising (buckets_in name vs)
rises_in name [] rises = tt
rises_in name (v ∷ vs) rises = by (bytes_eq v.name name) refl (rises_in name vs rises.1)
  where
    by : (t : Bool) → bytes_eq v.name name ≡ t → AreRising (buckets_in name vs) → AreRising (buckets_in name (v ∷ vs))
    by true is rest = subst (λ (o : Option IndexView). AreRising (buckets_of o)) (sym (found true name v vs is)) rises.0
    by false is rest = subst (λ (o : Option IndexView). AreRising (buckets_of o)) (sym (found false name v vs is)) rest

-- ---- the numbers of next buckets

with_under : (index : List ℕ) (number : ℕ) (list : List Item) (name : Name) → is_same (named 13 index 0) name ≡ false →
    NoneUnder name list → NoneUnder name (with_number index number list)
with_under index number [] name other none = tt
with_under index number (x ∷ xs) name other none = (other, none)

with_same : (index : List ℕ) (number : ℕ) (list : List Item) (book : NamedItems) (name : Name) → is_same (named 13 index 0) name ≡ false →
    replay (with_number index number list) book name ≡ replay list book name
with_same index number [] book name other = refl
with_same index number (x ∷ xs) book name other =
    replay_at (x ∷ xs) (after_item (items.NextId index number) book) book name
    (chosen_other (is_same (named 13 index 0) name) (Some (items.NextId index number)) (book name) other)

with_leads : (index : List ℕ) (number : ℕ) (list : List Item) (book : NamedItems) → NoneUnder (named 13 index 0) list
    → replay (with_number index number list) book (named 13 index 0) ≡ number_left index number list (book (named 13 index 0))
with_leads index number [] book none = refl
with_leads index number (x ∷ xs) book none =
    let own : is_same (named 13 index 0) (named 13 index 0) ≡ true = ap (λ (t : Bool). t && true) ((bytes_eq-Decides index index).1 refl) in
    none_under (x ∷ xs) (named 13 index 0) (after_item (items.NextId index number) book) none
    ∙ ap (λ (t : Bool). if t then Some (items.NextId index number) else book (named 13 index 0)) own

module _ (ledger : List Entry) (old : List IndexView) where
  abbrev give : IndexView → List Item
  give v = index_changes ledger old v

  abbrev all : List IndexView → List Item
  all vs = flat_map give vs

  one_elsewhere : (v : IndexView) (name : Name) → is_bucket_of v.name name ≡ false → is_same (named 13 v.name 0) name ≡ false →
      NoneUnder name (give v)
  one_elsewhere v name bucket number =
      with_under v.name (next_number v.name v.buckets ledger) (changed v.name (buckets_in v.name old) v.buckets) name number
      (elsewhere v.name (buckets_in v.name old) v.buckets name bucket)

  -- of an index that is not among them nothing changes
  absent : (vs : List IndexView) (index : List ℕ) (name : Name) →
      ((v : IndexView) → bytes_eq v.name index ≡ false → NoneUnder name (give v)) → find view_name index vs ≡ None → NoneUnder name (all vs)
  absent [] index name each none = tt
  absent (v ∷ vs) index name each none = by (bytes_eq v.name index) refl (λ rest. absent vs index name each rest)
    where
      by : (t : Bool) → bytes_eq v.name index ≡ t → (find view_name index vs ≡ None → NoneUnder name (all vs)) →
          NoneUnder name (all (v ∷ vs))
      by true is rest = let some : Some v ≡ None = sym (found true index v vs is) ∙ none in absurd cc
      by false is rest = all_behind (λ (x : Item). is_same (name_of x) name ≡ false) (give v) (all vs) (each v is)
          (rest (sym (found false index v vs is) ∙ none))

  no_bucket : (name : List ℕ) (id : ℕ) (v : IndexView) → bytes_eq v.name name ≡ false → NoneUnder (named 6 name id) (give v)
  no_bucket name id v is = one_elsewhere v (named 6 name id) is refl

  no_number : (name : List ℕ) (v : IndexView) → bytes_eq v.name name ≡ false → NoneUnder (named 13 name 0) (give v)
  no_number name v is = one_elsewhere v (named 13 name 0) refl (ap (λ (t : Bool). t && true) is)

  one_leads : (v : IndexView) (id : ℕ) (book : NamedItems) → AreRising (buckets_in v.name old) → AreRising v.buckets →
      book (named 6 v.name id) ≡ stood v.name (by_id id (buckets_in v.name old))
      → replay (give v) book (named 6 v.name id) ≡ stood v.name (by_id id v.buckets)
  one_leads v id book o n stands =
      with_same v.name (next_number v.name v.buckets ledger) (changed v.name (buckets_in v.name old) v.buckets) book (named 6 v.name id)
      refl
      ∙ lead v.name id (buckets_in v.name old) v.buckets book o n stands

  present : (vs : List IndexView) (name : List ℕ) (id : ℕ) (book : NamedItems) → NamesDiffer vs → EachRises vs →
      AreRising (buckets_in name old) → book (named 6 name id) ≡ stood name (by_id id (buckets_in name old))
      → (w : IndexView) → find view_name name vs ≡ Some w → replay (all vs) book (named 6 name id) ≡ stood name (by_id id w.buckets)
  present [] name id book differ rises o stands w is = absurd cc
  present (v ∷ vs) name id book differ rises o stands w is =
      by (bytes_eq v.name name) refl (λ book' stands' rest. present vs name id book' differ.1 rises.1 o stands' w rest)
    where
      by : (t : Bool) → bytes_eq v.name name ≡ t
          → ((book' : NamedItems) → book' (named 6 name id) ≡ stood name (by_id id (buckets_in name old)) →
          find view_name name vs ≡ Some w → replay (all vs) book' (named 6 name id) ≡ stood name (by_id id w.buckets))
          → replay (all (v ∷ vs)) book (named 6 name id) ≡ stood name (by_id id w.buckets)
      by true at rest =
          let one : Some v ≡ Some w = sym (found true name v vs at) ∙ is in
          let same : v ≡ w = cc in
          let title : v.name ≡ name = equal_names v.name name at in
          let none = absent vs name (named 6 name id) (no_bucket name id)
          (subst (λ (m : List ℕ). find view_name m vs ≡ None) title (no_other v.name vs differ.0)) in
          let here : replay (give v) book (named 6 v.name id) ≡ stood v.name (by_id id v.buckets) =
          one_leads v id book (subst (λ (m : List ℕ). AreRising (buckets_in m old)) (sym title) o) rises.0
          (subst (λ (m : List ℕ). book (named 6 m id) ≡ stood m (by_id id (buckets_in m old))) (sym title) stands) in
          ap (λ (b : NamedItems). b (named 6 name id)) (replay_behind (give v) (all vs) book)
          ∙ none_under (all vs) (named 6 name id) (replay (give v) book) none
          ∙ subst (λ (m : List ℕ). replay (give v) book (named 6 m id) ≡ stood m (by_id id v.buckets)) title here
          ∙ ap (λ (x : IndexView). stood name (by_id id x.buckets)) same
      by false at rest =
          ap (λ (b : NamedItems). b (named 6 name id)) (replay_behind (give v) (all vs) book)
          ∙ rest (replay (give v) book) (none_under (give v) (named 6 name id) book (no_bucket name id v at)
          ∙ stands) (sym (found false name v vs at) ∙ is)

  all_elsewhere : (vs : List IndexView) (name : Name) → (6 == name.kind) ≡ false → (13 == name.kind) ≡ false → NoneUnder name (all vs)
  all_elsewhere [] name bucket number = tt
  all_elsewhere (v ∷ vs) name bucket number =
      all_behind (λ (x : Item). is_same (name_of x) name ≡ false) (give v) (all vs)
      (one_elsewhere v name (ap (λ (t : Bool). t && bytes_eq v.name name.text) bucket)
      (ap (λ (t : Bool). t && (bytes_eq v.name name.text && (0 == name.number))) number))
      (all_elsewhere vs name bucket number)

  stands_on : (new : List IndexView) (book : NamedItems) → NamesDiffer new → EachRises old → EachRises new → KeepsIndexes old new →
      ((name : List ℕ) (id : ℕ) → book (named 6 name id) ≡ stood name (by_id id (buckets_in name old)))
      → (name : List ℕ) (id : ℕ) (o : Option IndexView) → find view_name name new ≡ o →
      replay (all new) book (named 6 name id) ≡ stood name (by_id id (buckets_of o))
  stands_on new book differ o n keeps stands name id None is =
      none_under (all new) (named 6 name id) book (absent new name (named 6 name id) (no_bucket name id) is) ∙ stands name id
      ∙ ap (λ bs. stood name (by_id id bs)) (keeps name is)
  stands_on new book differ o n keeps stands name id (Some w) is =
      present new name id book differ n (rises_in name old o) (stands name id) w is

  -- ---- the number of an index's next bucket

  number_leads : (vs : List IndexView) (name : List ℕ) (book : NamedItems) → NamesDiffer vs → (o : Option IndexView) →
      find view_name name vs ≡ o
      → replay (all vs) book (named 13 name 0) ≡ number_after ledger old o (book (named 13 name 0))
  number_leads [] name book differ o is = ap (λ (o : Option IndexView). number_after ledger old o (book (named 13 name 0))) is
  number_leads (v ∷ vs) name book differ o is = by (bytes_eq v.name name) refl (λ book' rest. number_leads vs name book' differ.1 o rest)
    where
      by : (t : Bool) → bytes_eq v.name name ≡ t
          → ((book' : NamedItems) → find view_name name vs ≡ o →
          replay (all vs) book' (named 13 name 0) ≡ number_after ledger old o (book' (named 13 name 0)))
          → replay (all (v ∷ vs)) book (named 13 name 0) ≡ number_after ledger old o (book (named 13 name 0))
      by true at rest =
          let title : v.name ≡ name = equal_names v.name name at in
          let none = absent vs name (named 13 name 0) (no_number name)
          (subst (λ (m : List ℕ). find view_name m vs ≡ None) title (no_other v.name vs differ.0)) in
          let list = changed v.name (buckets_in v.name old) v.buckets in
          let number = next_number v.name v.buckets ledger in
          let here = with_leads v.name number list book (elsewhere v.name (buckets_in v.name old) v.buckets (named 13 v.name 0) refl) in
          ap (λ (b : NamedItems). b (named 13 name 0)) (replay_behind (give v) (all vs) book)
          ∙ none_under (all vs) (named 13 name 0) (replay (give v) book) none
          ∙ subst (λ (m : List ℕ). replay (give v) book (named 13 m 0) ≡ number_left v.name number list (book (named 13 m 0))) title here
          ∙ ap (λ (o : Option IndexView). number_after ledger old o (book (named 13 name 0))) (sym (found true name v vs at) ∙ is)
      by false at rest =
          ap (λ (b : NamedItems). b (named 13 name 0)) (replay_behind (give v) (all vs) book)
          ∙ rest (replay (give v) book) (sym (found false name v vs at) ∙ is)
          ∙ ap (number_after ledger old o) (none_under (give v) (named 13 name 0) book (no_number name v at))

pub changes_lead : ChangesLead
changes_lead ledger old new book differ o n keeps stands = (
  λ name id. stands_on ledger old new book differ o n keeps stands name id (find view_name name new) refl,
  λ name. number_leads ledger old new name book differ (find view_name name new) refl,
  λ name bucket number. none_under (flat_map (index_changes ledger old) new) name book (all_elsewhere ledger old new name bucket number),
)
