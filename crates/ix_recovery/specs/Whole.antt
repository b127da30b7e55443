-- The items that a state in memory stands as in a log.
use Rattle.std.specs.Prelude.{Bool, true, false, List, [], ◌∷◌, ◌++◌, map}
use Rattle.std.specs.List.{flat_map}
use Rattle.ix_items.specs.declared.items.Entry.{Entry}
use Rattle.ix_items.specs.declared.items.Item.{Item}
use Rattle.ix_items.specs.declared.items.Item.TheVariants as items
use Rattle.ix_recovery.specs.Listed.{single_items, life_items}
use Rattle.ix_model.specs.Bounds.{bucket_items}
use Rattle.ix_model.specs.State.{State}
use Rattle.ix_model.specs.Books.{number_item}

-- All of a state, kind by kind, with the entries of the ledger as they stand in memory.
abbrev pub kept_items : State → List Entry → List Item
kept_items m ledger =
    single_items m
    ++ (life_items m
    ++ (flat_map bucket_items m.catalog.indexes ++ (map items.Ledger ledger
    ++ (map items.Spot m.spots ++ map number_item m.catalog.indexes))))

-- Of a store that has accepted nothing, that no settings are set.
abbrev pub held_items : Bool → State → List Entry → List Item
held_items true m ledger = items.Settings m.force ∷ []
held_items false m ledger = kept_items m ledger
