-- The items that a state stands as in the log of its store.
use Rattle.std.specs.Prelude.{ℕ, List, [], ◌∷◌, ◌++◌, map, Option, option_to_list}
use Rattle.std.specs.List.{flat_map}
use Rattle.std.specs.Option.{option_map}
use Rattle.ix_base.specs.declared.files.File.{File}
use Rattle.ix_items.specs.declared.items.Item.{Item}
use Rattle.ix_items.specs.declared.items.Item.TheVariants as items
use Rattle.ix_model.specs.Bounds.{bucket_items}
use Rattle.ix_model.specs.Buckets.{Slot, Index, listed, entered}
use Rattle.ix_model.specs.Given.{Chooser}
use Rattle.ix_model.specs.Ledger.{all_frozen}
use Rattle.ix_model.specs.State.{State}
use Rattle.ix_model.specs.Step.{state_after}
use Rattle.ix_model.specs.declared.commands.TimedCommand.{TimedCommand}
use Rattle.ix_model.specs.Books.{life_item, number_item}

-- what is listed of a bucket, and its entry in the ledger
abbrev pub slot_items : List ℕ → Slot → List Item
slot_items index s =
    option_to_list (option_map (items.Bucket index) (listed s.standing)) ++ option_to_list (option_map items.Ledger (entered s.standing))

-- those of an index, by the numbers of its buckets
abbrev pub index_items : Index → List Item
index_items i = flat_map (slot_items i.name) i.slots

-- the settings in force, the moments, the counts and the number of the next file
abbrev pub single_items : State → List Item
single_items m =
    items.Settings m.force ∷ items.Moments m.last m.tick
    ∷ items.Counts m.catalog.counts.settled m.catalog.counts.nulled m.catalog.counts.dropped m.catalog.counts.placed
    ∷ items.NextFile m.catalog.next_file ∷ []

-- Of all that a state has: the open channels with what is carried of their streams, the buckets and
-- entries index by index, the spots, and of each index the number of its next bucket.
abbrev pub state_items : State → List Item
state_items m =
    single_items m
    ++ (map life_item m.channels
    ++ (flat_map index_items m.catalog.indexes ++ (map items.Spot m.spots ++ map number_item m.catalog.indexes)))

-- the open channels alone
abbrev pub life_items : State → List Item
life_items m = map life_item m.channels

-- the same kind by kind, as they stand in memory: all buckets, and then all entries
abbrev pub parted_items : State → List Item
parted_items m =
    single_items m
    ++ (life_items m
    ++ (flat_map bucket_items m.catalog.indexes ++ (map items.Ledger (all_frozen m.catalog.indexes)
    ++ (map items.Spot m.spots ++ map number_item m.catalog.indexes))))

-- that of a store that has accepted nothing: no settings are set, and nothing else stands in it
abbrev pub left_items : Chooser → List TimedCommand → List Item
left_items choose [] = items.Settings [] ∷ []
left_items choose (order ∷ history) = state_items (state_after choose (order ∷ history))

-- the files that the last commit left behind, where it said so
abbrev pub removal_item : Option (List File) → Option Item
removal_item removed = option_map items.Removals removed

-- with a run, and perhaps last removals
abbrev pub all_items : ℕ → Option (List File) → List Item → List Item
all_items run removed said = items.Run run ∷ (option_to_list (removal_item removed) ++ said)
