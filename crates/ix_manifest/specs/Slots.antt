-- The staged items.
use Rattle.std.specs.Prelude.{◌≡◌, ◌⊎◌, ◌<◌, ℕ, ◌+◌, List, [], ◌∷◌, ◌++◌, length, take, drop, map}
use Rattle.std.specs.List.{flat_map}
use Rattle.ix_base.specs.declared.files.File.{File}
use Rattle.ix_items.specs.declared.items.Item.{Item}
use Rattle.ix_log.specs.Log.{HasBodies, Gated}
use Rattle.ix_manifest.specs.Book.{NamedItems, NoneUnder, name_of, replay, removals_in}
use Rattle.ix_manifest.specs.declared.staged_item.StagedItem.{StagedItem}

-- their bytes, one behind the other
abbrev pub bytes_of : List StagedItem → List ℕ
bytes_of slots = flat_map (λ s. s.bytes) slots

abbrev pub in_slot : StagedItem → Item
in_slot slot = slot.item

-- the items that are staged
abbrev pub items_of : List StagedItem → List Item
items_of slots = map in_slot slots

-- without the one at a place
abbrev pub without : ℕ → List StagedItem → List StagedItem
without at slots = take at slots ++ drop (at + 1) slots

-- no two items stand under one name
abbrev pub AreOnce : List Item → Type 0
AreOnce [] = Unit {0}
AreOnce (item ∷ items) = NoneUnder (name_of item) items × AreOnce items

-- none, or the last removals of every book to which the items lead
abbrev pub AreRemovals : List StagedItem → List File → Type 0
AreRemovals slots files = (files ≡ []) ⊎ ((book : NamedItems) → files ≡ removals_in (replay (items_of slots) book))

-- the bodies, with one more of these items or without it; there is none without items
abbrev pub WithBody : List (List ℕ) → List StagedItem → List ℕ → Type 0
WithBody bodies slots file = HasBodies bodies file ⊎ ((0 < length slots) × Gated (bodies ++ bytes_of slots ∷ []) file)
