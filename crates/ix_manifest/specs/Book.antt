-- The book: what stands under each name after the items of a log.
use Rattle.std.specs.Prelude.{◌≡◌, ◌<◌, ◌==◌, ◌&&◌, if◌then◌else◌, ℕ, Bool, true, false, List, [], ◌∷◌, Option, Some, None, length}
use Rattle.std.specs.Prelude.{bytes_eq}
use Rattle.std.specs.List.{AllByRecursion}
use Rattle.ix_base.specs.declared.files.File.{File}
use Rattle.ix_items.specs.declared.items.Item.{Item}
use Rattle.ix_items.specs.declared.items.Item.TheVariants as items
use Rattle.ix_items.specs.Spelling.{HasSpelling, body_bytes}

-- What an item stands under: its kind, and there a text and a number, where it has them.
pub record Name : Type 0 where
  pub kind : ℕ
  pub text : List ℕ
  pub number : ℕ

abbrev pub named : ℕ → List ℕ → ℕ → Name
named kind text number = record { kind = kind; text = text; number = number }

abbrev pub name_of : Item → Name
name_of (items.Settings kept) = named 1 [] 0
name_of (items.Run run) = named 2 [] 0
name_of (items.Moments last tick) = named 3 [] 0
name_of (items.Channel name meta carry) = named 4 name 0
name_of (items.Ended name) = named 4 name 0
name_of (items.Bucket index bucket) = named 6 index bucket.id
name_of (items.Gone index id) = named 6 index id
name_of (items.Ledger entry) = named 8 entry.index entry.id
name_of (items.Counts settled nulled dropped placed) = named 9 [] 0
name_of (items.Spot spot) = named 10 spot.path 0
name_of (items.NextFile number) = named 11 [] 0
name_of (items.Removals files) = named 12 [] 0
name_of (items.NextId index id) = named 13 index 0

abbrev pub is_same : Name → Name → Bool
is_same a b = (a.kind == b.kind) && (bytes_eq a.text b.text && (a.number == b.number))

-- what stands there after the item: nothing, where a channel has ended or a bucket is gone
abbrev pub left_by : Item → Option Item
left_by (items.Settings kept) = Some (items.Settings kept)
left_by (items.Run run) = Some (items.Run run)
left_by (items.Moments last tick) = Some (items.Moments last tick)
left_by (items.Channel name meta carry) = Some (items.Channel name meta carry)
left_by (items.Ended name) = None
left_by (items.Bucket index bucket) = Some (items.Bucket index bucket)
left_by (items.Gone index id) = None
left_by (items.Ledger entry) = Some (items.Ledger entry)
left_by (items.Counts settled nulled dropped placed) = Some (items.Counts settled nulled dropped placed)
left_by (items.Spot spot) = Some (items.Spot spot)
left_by (items.NextFile number) = Some (items.NextFile number)
left_by (items.Removals files) = Some (items.Removals files)
left_by (items.NextId index id) = Some (items.NextId index id)

-- what stands under each name
abbrev pub NamedItems : Type 0
NamedItems = Name → Option Item

abbrev pub empty : NamedItems
empty name = None

-- an item replaces what stands under its name
abbrev pub after_item : Item → NamedItems → NamedItems
after_item item book name = if is_same (name_of item) name then left_by item else book name

-- one item behind the other
abbrev pub replay : List Item → NamedItems → NamedItems
replay [] book = book
replay (item ∷ items) book = replay items (after_item item book)

-- the bytes are these items, one behind the other
pub record AreItems (items : List Item) (bytes : List ℕ) : Type 0 where
  pub proper : AllByRecursion HasSpelling items
  pub spelled : bytes ≡ body_bytes items

-- a body is at least one item
pub record IsBody (items : List Item) (body : List ℕ) : Type 0 where
  pub are : AreItems items body
  pub some : 0 < length body

-- The bodies lead from one book to the other, and the book behind each of them fits: whoever keeps
-- the state says which do.
abbrev pub Replays : (NamedItems → Type 0) → List (List ℕ) → NamedItems → NamedItems → Type 0
Replays fits [] from to = to ≡ from
Replays fits (body ∷ bodies) from to = (items : List Item) × IsBody items body × fits (replay items from)
    × Replays fits bodies (replay items from) to

-- no item of these stands under the name
abbrev pub NoneUnder : Name → List Item → Type 0
NoneUnder name items = AllByRecursion (λ item. is_same (name_of item) name ≡ false) items

-- the run that an item begins
abbrev pub run_of : Option Item → ℕ
run_of None = 0
run_of (Some (items.Settings kept)) = 0
run_of (Some (items.Run run)) = run
run_of (Some (items.Moments last tick)) = 0
run_of (Some (items.Channel name meta carry)) = 0
run_of (Some (items.Ended name)) = 0
run_of (Some (items.Bucket index bucket)) = 0
run_of (Some (items.Gone index id)) = 0
run_of (Some (items.Ledger entry)) = 0
run_of (Some (items.Counts settled nulled dropped placed)) = 0
run_of (Some (items.Spot spot)) = 0
run_of (Some (items.NextFile number)) = 0
run_of (Some (items.Removals files)) = 0
run_of (Some (items.NextId index id)) = 0

-- the run that was begun last, 0 where there was none
abbrev pub run_in : NamedItems → ℕ
run_in book = run_of (book (named 2 [] 0))

-- the files that an item names for removal
abbrev pub removals_of : Option Item → List File
removals_of None = []
removals_of (Some (items.Settings kept)) = []
removals_of (Some (items.Run run)) = []
removals_of (Some (items.Moments last tick)) = []
removals_of (Some (items.Channel name meta carry)) = []
removals_of (Some (items.Ended name)) = []
removals_of (Some (items.Bucket index bucket)) = []
removals_of (Some (items.Gone index id)) = []
removals_of (Some (items.Ledger entry)) = []
removals_of (Some (items.Counts settled nulled dropped placed)) = []
removals_of (Some (items.Spot spot)) = []
removals_of (Some (items.NextFile number)) = []
removals_of (Some (items.Removals files)) = files
removals_of (Some (items.NextId index id)) = []

-- the files that the last removals name
abbrev pub removals_in : NamedItems → List File
removals_in book = removals_of (book (named 12 [] 0))

abbrev pub is_there : Option Item → Bool
is_there None = false
is_there (Some item) = true

-- whether settings stand
abbrev pub has_settings : NamedItems → Bool
has_settings book = is_there (book (named 1 [] 0))
