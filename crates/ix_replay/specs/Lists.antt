-- The items that stand in a book.
use Rattle.std.specs.Prelude.{◌≡◌, ℕ, List, Some}
use Rattle.std.specs.List.{AllByRecursion, sum_by}
use Rattle.std.specs.List.Sorted.{IsPermutation}
use Rattle.ix_items.specs.declared.items.Item.{Item}
use Rattle.ix_manifest.specs.Book.{NamedItems, empty, left_by, replay}
use Rattle.ix_manifest.specs.Slots.{AreOnce}

-- what an item leaves is itself: no channel's end, and no bucket that is gone
abbrev pub IsLeft : Item → Type 0
IsLeft item = left_by item ≡ Some item

-- each item leaves itself, under a name of its own
pub record AreListed (items : List Item) : Type 0 where
  pub once : AreOnce items
  pub left : AllByRecursion IsLeft items

-- These items stand in the book, each once, and no other.
pub record Lists (items : List Item) (book : NamedItems) : Type 0 where
  pub stands : book ≡ replay items empty
  pub listed : AreListed items

-- ---- laws

-- two lists of one book are one list in two orders
abbrev pub AreOneList : Type 0
AreOneList = (book : NamedItems) (a b : List Item) → Lists a book → Lists b book → IsPermutation a b

-- so what they count for is the same
abbrev pub HaveOneSum : Type 0
HaveOneSum = (book : NamedItems) (a b : List Item) → Lists a book → Lists b book → (count : Item → ℕ) → sum_by count a ≡ sum_by count b
