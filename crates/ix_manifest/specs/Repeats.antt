-- Which numbers of names stand more than once among staged items.
use Rattle.std.specs.Prelude.{◌≡◌, ◌<◌, ◌==◌, ℕ, Bool, true, List, Some, IsSome}
use Rattle.std.specs.BTreeMap.{BTreeMap, get}
use Rattle.std.specs.Ordering.{nat_cmp}
use Rattle.std.specs.List.{count_by}
use Rattle.ix_manifest.specs.Keys.{key_in}
use Rattle.ix_manifest.specs.declared.staged_item.StagedItem.{StagedItem}

-- how many items have a name of this number
abbrev pub under : ℕ → List StagedItem → ℕ
under n slots = count_by (λ slot. key_in slot.item == n) slots

-- each number that is there has an entry, and one that is there again is told so
abbrev pub Tells : BTreeMap ℕ Bool → List StagedItem → Type 0
Tells seen slots = (n : ℕ) → (0 < under n slots → IsSome (get nat_cmp seen n)) × (1 < under n slots → get nat_cmp seen n ≡ Some true)
