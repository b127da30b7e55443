-- Whether nothing was accepted yet, and how a log tells.
use Rattle.std.specs.Prelude.{Bool, true, false, List, [], ◌∷◌}
use Rattle.ix_items.specs.declared.items.Item.{Item}
use Rattle.ix_items.specs.declared.items.Item.TheVariants as items
use Rattle.ix_model.specs.declared.commands.TimedCommand.{TimedCommand}

abbrev pub is_first : List TimedCommand → Bool
is_first [] = true
is_first (order ∷ history) = false

-- each command says the moments
abbrev pub is_moments : Item → Bool
is_moments (items.Moments last tick) = true
is_moments other = false
