-- Where items are looked for in a list.
use Rattle.std.specs.Prelude.{ℕ, List, IsSome, All}
use Rattle.std.specs.BTreeMap.{BTreeMap, get}
use Rattle.std.specs.Ordering.{nat_cmp}
use Rattle.ix_items.specs.declared.items.Item.{Item}
use Rattle.ix_manifest.specs.Keys.{key_in}

-- each item of the list has an entry at the number of its name, whatever place that tells
abbrev pub AreKnown : BTreeMap ℕ ℕ → List Item → Type 0
AreKnown places items = All (λ item. IsSome (get nat_cmp places (key_in item))) items
