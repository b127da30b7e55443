-- What is gathered of items, taken from the last one on.
use Rattle.std.proofs.Common.{◌≡◌, List, [], ◌∷◌, ◌++◌, refl, ap}
use Rattle.ix_items.specs.declared.items.Item.{Item}
use Rattle.ix_recovery.specs.declared.gathering.GatheredItems.{GatheredItems}
use Rattle.ix_recovery.specs.Gathered.{taken, all_taken}

-- the last item is taken first
pub taken_last : (items : List Item) (item : Item) (g : GatheredItems) → all_taken (items ++ item ∷ []) g ≡ all_taken items (taken item g)
taken_last [] item g = refl
taken_last (other ∷ items) item g = ap (taken other) (taken_last items item g)
