-- What an item makes of a list.
use Rattle.std.specs.Prelude.{◌+◌, if◌then◌else◌, ℕ, List, ◌∷◌, ◌++◌, take, drop}
use Rattle.ix_items.specs.declared.items.Item.{Item}
use Rattle.ix_manifest.specs.Book.{left_by, is_there}

-- without the one at a place, where one stands there
abbrev pub without : ℕ → List Item → List Item
without at items = take at items ++ drop (at + 1) items

-- with an item in place of that one, unless it leaves nothing; in whatever order
abbrev pub with_item : ℕ → Item → List Item → List Item
with_item at item items = if is_there (left_by item) then item ∷ without at items else without at items
