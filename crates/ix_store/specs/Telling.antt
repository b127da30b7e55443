-- What a checkpoint tells of a store.
use Rattle.std.specs.Prelude.{ℕ, List, ◌++◌, map, Option, option_to_list}
use Rattle.ix_items.specs.declared.items.Item.{Item}
use Rattle.ix_items.specs.declared.items.Item.TheVariants as items

-- the items of a state, and behind them the run, where it is still to be told
abbrev pub with_run : Option ℕ → List Item → List Item
with_run run said = said ++ map items.Run (option_to_list run)
