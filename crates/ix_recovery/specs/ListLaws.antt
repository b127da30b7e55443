-- What holds of the items that a state stands as: the statements of the laws.
use Rattle.std.specs.Prelude.{◌≡◌, ◌≤◌, ◌<◌, ◌-◌, ◌^◌, ℕ, List, [], ◌∷◌, length, Option, Some, unwrap_or}
use Rattle.std.specs.List.{AllByRecursion}
use Rattle.std.specs.List.Sorted.{IsPermutation}
use Rattle.ix_base.specs.declared.files.Area.TheVariants.{Meta}
use Rattle.ix_base.specs.declared.files.File.{File}
use Rattle.ix_manifest.specs.Book.{empty, replay}
use Rattle.ix_items.specs.Spelling.{body_bytes}
use Rattle.ix_items.specs.declared.items.Item.{Item}
use Rattle.ix_items.specs.declared.items.Item.TheVariants as items
use Rattle.ix_model.specs.Bounds.{KeepsBounds}
use Rattle.ix_model.specs.Given.{Chooser}
use Rattle.ix_model.specs.State.{State, ChannelHistory}
use Rattle.ix_model.specs.Step.{state_after}
use Rattle.ix_model.specs.declared.commands.TimedCommand.{TimedCommand}
use Rattle.ix_replay.specs.Fits.{fits}
use Rattle.ix_replay.specs.Lists.{Lists}
use Rattle.ix_model.specs.Books.{life_item}
use Rattle.ix_model.specs.Snap.{snapshot_of}
use Rattle.ix_store.specs.Written.{over, AreDone}
use Rattle.ix_recovery.specs.Listed.{state_items, parted_items, left_items, removal_item, all_items}
use Rattle.ix_recovery.specs.Told.{Tells}

-- they are what stands in the log, each once
abbrev pub StatesAreListed : Type 0
StatesAreListed =
    (choose : Chooser) (history : List TimedCommand) (run : ℕ) (removed : Option (List File)) →
    Lists (all_items run removed (left_items choose history)) (over run (removal_item removed) (snapshot_of choose history).book)

-- A state within the bounds has a log that fits, whatever run wrote it, and whichever files that
-- are done with it names for removal.
abbrev pub WithinFits : Type 0
WithinFits =
    (choose : Chooser) (history : List TimedCommand) (run : ℕ) (removed : Option (List File)) →
    run < 2 ^ 63 → AreDone (state_after choose history).catalog (unwrap_or removed []) → KeepsBounds (state_after choose history) →
    fits (over run (removal_item removed) (snapshot_of choose history).book)

-- and a log that fits has a state within them
abbrev pub FitsWithin : Type 0
FitsWithin =
    (choose : Chooser) (history : List TimedCommand) (run : ℕ) (removed : Option Item) →
    fits (over run removed (snapshot_of choose history).book) → KeepsBounds (state_after choose history)

-- A log that fits still does where the one file that is done with is that of another log: a
-- checkpoint leaves it so.
abbrev pub FitsWithLog : Type 0
FitsWithLog =
    (choose : Chooser) (history : List TimedCommand) (run : ℕ) (removed : Option Item) (log : File) → log.area ≡ Meta →
    log.number < 2 ^ 63 →
    fits (over run removed (snapshot_of choose history).book) →
    fits (over run (Some (items.Removals (log ∷ []))) (snapshot_of choose history).book)

-- the items of a state, one behind the other in whatever order, lead to what stands in its log
abbrev pub ItemsLead : Type 0
ItemsLead =
    (choose : Chooser) (history : List TimedCommand) (said : List Item) → IsPermutation (left_items choose history) said →
    replay said empty ≡ (snapshot_of choose history).book

-- kind by kind they are the same items
abbrev pub ItemsPart : Type 0
ItemsPart = (m : State) → IsPermutation (state_items m) (parted_items m)

-- how many bytes an item carries of a channel's stream
abbrev pub carried_in : Item → ℕ
carried_in (items.Settings kept) = 0
carried_in (items.Run run) = 0
carried_in (items.Moments last tick) = 0
carried_in (items.Channel name meta carry) = length carry
carried_in (items.Ended name) = 0
carried_in (items.Bucket index bucket) = 0
carried_in (items.Gone index id) = 0
carried_in (items.Ledger entry) = 0
carried_in (items.Counts settled nulled dropped placed) = 0
carried_in (items.Spot spot) = 0
carried_in (items.NextFile number) = 0
carried_in (items.Removals files) = 0
carried_in (items.NextId index id) = 0

-- of each open channel 8,388,608 bytes or fewer are carried
abbrev pub CarriesFew : State → Type 0
CarriesFew m = AllByRecursion (λ (life : ChannelHistory). carried_in (life_item life) ≤ 8388608) m.channels

-- The items of a state within the bounds have room in one body of a log, with a run and a file that
-- is done with.
abbrev pub HaveRoom : Type 0
HaveRoom =
    (choose : Chooser) (history : List TimedCommand) (said : List Item) → IsPermutation (left_items choose history) said →
    KeepsBounds (state_after choose history) → CarriesFew (state_after choose history) → length (body_bytes said) < 2 ^ 32 - 64

-- whatever list of what stands in the log is taken, it says the whole state
abbrev pub ListsTell : Type 0
ListsTell =
    (choose : Chooser) (history : List TimedCommand) (run : ℕ) (removed : Option Item) (said : List Item) →
    Lists said (over run removed (snapshot_of choose history).book) → Tells said (state_after choose history)
