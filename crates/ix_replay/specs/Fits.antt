-- The books whose items keep the bounds of what a store can keep.
use Rattle.std.specs.Prelude.{List}
use Rattle.ix_items.specs.declared.items.Item.{Item}
use Rattle.ix_manifest.specs.Book.{NamedItems}
use Rattle.ix_replay.specs.Lists.{Lists}
use Rattle.ix_replay.specs.Bounds.{KeepsBounds}

-- some list of what stands keeps the bounds
abbrev pub fits : NamedItems → Type 0
fits book = (items : List Item) × Lists items book × KeepsBounds items

-- ---- laws

-- so each list of what stands keeps them
abbrev pub AllKeepBounds : Type 0
AllKeepBounds = (book : NamedItems) (items : List Item) → fits book → Lists items book → KeepsBounds items
