-- What changed from shelves to shelves, as items: the buckets that are new, changed or gone, and
-- the numbers.
use Rattle.std.specs.Prelude.{◌≡◌, ◌==◌, ◌<◌, ◌&&◌, ◌||◌, ℕ, Bool, true, false, Option, Some, None, bytes_eq, if◌then◌else◌, nat_lt, List}
use Rattle.std.specs.Prelude.{[], ◌∷◌, ◌++◌, map, take}
use Rattle.std.specs.List.{flat_map, AllByRecursion}
use Rattle.std.specs.Ordering.{int_eq}
use Rattle.ix_base.specs.declared.files.File.{File}
use Rattle.ix_items.specs.Spelling.{area_byte, state_byte, HasSpelling}
use Rattle.ix_items.specs.declared.items.Bucket.{Bucket}
use Rattle.ix_items.specs.declared.items.Entry.{Entry}
use Rattle.ix_items.specs.declared.items.Item.{Item}
use Rattle.ix_items.specs.declared.items.Item.TheVariants as items
use Rattle.ix_life.specs.declared.views.IndexView.{IndexView}
use Rattle.ix_manifest.specs.Book.{Name, NamedItems, named, replay}
use Rattle.ix_catalog.specs.Lists.{find, AreAscending}
use Rattle.ix_catalog.specs.Shelves.{by_id, view_name, buckets_in, next_number}
use Rattle.ix_catalog.specs.declared.index_table.IndexTable.{IndexTable}

-- whether two files are the same
abbrev pub is_same_file : File → File → Bool
is_same_file f g = (area_byte f.area == area_byte g.area) && (f.number == g.number)

-- whether two buckets are the same
abbrev pub is_same : Bucket → Bucket → Bool
is_same b c =
    (b.id == c.id) && ((state_byte b.state == state_byte c.state) &&
    (is_same_file b.file c.file && ((b.bytes == c.bytes) && ((b.count == c.count)
    && (int_eq b.newest c.newest && (int_eq b.oldest c.oldest && ((b.used == c.used) && int_eq b.touched c.touched)))))))

-- what became of the buckets of an index; both lists stand by the numbers
abbrev pub changed : List ℕ → List Bucket → List Bucket → List Item
changed name [] [] = []
changed name (b ∷ bs) [] = items.Gone name b.id ∷ changed name bs []
changed name [] (c ∷ cs) = items.Bucket name c ∷ changed name [] cs
changed name (b ∷ bs) (c ∷ cs) =
    if b.id == c.id then (if is_same b c then [] else items.Bucket name c ∷ []) ++ changed name bs cs
    else if nat_lt b.id c.id then items.Gone name b.id ∷ changed name bs (c ∷ cs)
    else items.Bucket name c ∷ changed name (b ∷ bs) cs

-- where a bucket changed, the next number is said again
abbrev pub with_number : List ℕ → ℕ → List Item → List Item
with_number name number [] = []
with_number name number (x ∷ xs) = items.NextId name number ∷ x ∷ xs

-- an index that had these buckets before
abbrev pub bucket_changes : List Entry → List Bucket → IndexView → List Item
bucket_changes ledger before v = with_number v.name (next_number v.name v.buckets ledger) (changed v.name before v.buckets)

abbrev pub index_changes : List Entry → List IndexView → IndexView → List Item
index_changes ledger old v = bucket_changes ledger (buckets_in v.name old) v

-- the counts of events, and the number of the next file
abbrev pub numbers : IndexTable → List Item
numbers s = items.Counts s.settled s.nulled s.dropped s.placed ∷ items.NextFile s.next_file ∷ []

-- the ledger is that of the new shelves, and `more` are its entries that are new
abbrev pub changes : List Entry → List Entry → IndexTable → IndexTable → List Item
changes ledger more old new =
    flat_map (index_changes ledger old.indexes) new.indexes ++ map items.Ledger more ++ numbers new

-- ---- one bucket after the other

-- whether the first bucket of a list has a lower number than that of the other, or there is no
-- other
abbrev pub comes_first : List Bucket → List Bucket → Bool
comes_first [] cs = false
comes_first (b ∷ bs) [] = true
comes_first (b ∷ bs) (c ∷ cs) = nat_lt b.id c.id

-- what became of the buckets before these was put behind the items
pub record HasPut (name : List ℕ) (old new olds news : List Bucket) (before after : List Item) : Type 0 where
  pub done : List Item
  pub put : after ≡ before ++ done
  pub proper : AllByRecursion HasSpelling done
  pub whole : changed name old new ≡ done ++ changed name olds news

-- what the first so many elements give was put behind the items
pub record IsPut {X : Type 0} (give : X → List Item) (xs : List X) (count : ℕ) (before after : List Item) : Type 0 where
  pub put : after ≡ before ++ flat_map give (take count xs)
  pub proper : AllByRecursion HasSpelling (flat_map give (take count xs))

-- ---- where the changes lead

abbrev pub stood : List ℕ → Option Bucket → Option Item
stood name None = None
stood name (Some b) = Some (items.Bucket name b)

-- exactly these buckets of an index stand in the book, each under its number
abbrev pub Stand : List ℕ → List Bucket → NamedItems → Type 0
Stand name bs book = (id : ℕ) → book (named 6 name id) ≡ stood name (by_id id bs)

-- the numbers rise
abbrev pub AreRising : List Bucket → Type 0
AreRising [] = Unit {0}
AreRising (b ∷ bs) = AllByRecursion (λ c. b.id < c.id) bs × AreRising bs

-- whether it is the name of a bucket of this index
abbrev pub is_bucket_of : List ℕ → Name → Bool
is_bucket_of index name = (6 == name.kind) && bytes_eq index name.text

-- From a book in which exactly the old buckets of an index stand they lead to one in which exactly
-- the new ones do. Nothing else changes.
abbrev pub ChangedLeads : Type 0
ChangedLeads = (index : List ℕ) (old new : List Bucket) (book : NamedItems) → AreRising old → AreRising new → Stand index old book
    → Stand index new (replay (changed index old new) book)
    × ((name : Name) → is_bucket_of index name ≡ false → replay (changed index old new) book name ≡ book name)

-- no two indexes have one name
abbrev pub NamesDiffer : List IndexView → Type 0
NamesDiffer [] = Unit {0}
NamesDiffer (v ∷ vs) = AllByRecursion (λ w. bytes_eq v.name w.name ≡ false) vs × NamesDiffer vs

-- where they stand in the order of their names, no two have one
abbrev pub AscendingDiffer : Type 0
AscendingDiffer = (vs : List IndexView) → AreAscending view_name vs → NamesDiffer vs

-- the buckets of each index rise by their numbers
abbrev pub EachRises : List IndexView → Type 0
EachRises vs = AllByRecursion (λ v. AreRising v.buckets) vs

-- an index that is lost had no buckets
abbrev pub KeepsIndexes : List IndexView → List IndexView → Type 0
KeepsIndexes old new = (name : List ℕ) → find view_name name new ≡ None → buckets_in name old ≡ []

-- exactly the buckets of these indexes stand in the book
abbrev pub AllStand : List IndexView → NamedItems → Type 0
AllStand vs book = (name : List ℕ) → Stand name (buckets_in name vs) book

-- what stands under the name of an index's next number: a new one where a bucket has changed
abbrev pub number_left : List ℕ → ℕ → List Item → Option Item → Option Item
number_left index number [] before = before
number_left index number (x ∷ xs) before = Some (items.NextId index number)

abbrev pub number_after : List Entry → List IndexView → Option IndexView → Option Item → Option Item
number_after ledger old None before = before
number_after ledger old (Some v) before =
    number_left v.name (next_number v.name v.buckets ledger) (changed v.name (buckets_in v.name old) v.buckets) before

-- The same of all indexes, with the numbers of next buckets.
abbrev pub ChangesLead : Type 0
ChangesLead = (ledger : List Entry) (old new : List IndexView) (book : NamedItems) → NamesDiffer new → EachRises old → EachRises new →
    KeepsIndexes old new → AllStand old book
    → AllStand new (replay (flat_map (index_changes ledger old) new) book)
    × ((name : List ℕ) → replay (flat_map (index_changes ledger old) new) book (named 13 name 0) ≡ number_after ledger old
    (find view_name name new) (book (named 13 name 0)))
    × ((name : Name) → (6 == name.kind) ≡ false → (13 == name.kind) ≡ false →
    replay (flat_map (index_changes ledger old) new) book name ≡ book name)

-- whether shelves or the ledger have items of this kind
abbrev pub is_shelf_kind : ℕ → Bool
is_shelf_kind kind = (6 == kind) || ((8 == kind) || ((9 == kind) || ((11 == kind) || (13 == kind))))

-- What the changes of shelves lead to: exactly the new buckets stand, with the numbers of next
-- buckets, the counts and the number of the next file; the new entries of the ledger stand beside
-- those of before; and nothing else changes.
pub record Leads (ledger more : List Entry) (old new : IndexTable) (from to : NamedItems) : Type 0 where
  pub buckets : AllStand new.indexes to
  pub next : (name : List ℕ) → to (named 13 name 0) ≡ number_after ledger old.indexes (find view_name name new.indexes)
      (from (named 13 name 0))
  pub entries : (name : Name) → (8 == name.kind) ≡ true → to name ≡ replay (map items.Ledger more) from name
  pub counts : to (named 9 [] 0) ≡ Some (items.Counts new.settled new.nulled new.dropped new.placed)
  pub file : to (named 11 [] 0) ≡ Some (items.NextFile new.next_file)
  pub others : (name : Name) → is_shelf_kind name.kind ≡ false → to name ≡ from name

abbrev pub ShelvesLead : Type 0
ShelvesLead = (ledger more : List Entry) (old new : IndexTable) (book : NamedItems) → NamesDiffer new.indexes → EachRises old.indexes →
    EachRises new.indexes
    → KeepsIndexes old.indexes new.indexes → AllStand old.indexes book →
    Leads ledger more old new book (replay (changes ledger more old new) book)
