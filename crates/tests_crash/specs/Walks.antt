-- The state of a small life, and what is left of it on a walk.
use Rattle.std.specs.Prelude.{ℤ, pos, List, [], ◌∷◌}
use Rattle.ix_items.specs.declared.items.Item.{Item}
use Rattle.ix_items.specs.declared.items.Item.TheVariants as items
use Rattle.tests_crash.specs.declared.walk.Walk.{Walk}
use Rattle.tests_crash.specs.declared.walk.Walk.TheVariants as walks

abbrev pub state_of : ℤ → List Item
state_of group = items.Settings [] ∷ items.Run 1 ∷ items.Moments group (pos 0) ∷ []

abbrev pub left_of : Walk → List Item
left_of (walks.Settings group) = state_of group
left_of (walks.Run group) = items.Run 1 ∷ items.Moments group (pos 0) ∷ []
left_of (walks.Moments group) = items.Moments group (pos 0) ∷ []
left_of walks.End = []
