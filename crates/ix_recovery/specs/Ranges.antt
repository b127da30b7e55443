-- Each event that a history puts into an index has a record in a bucket's file.
use Rattle.std.specs.Prelude.{List}
use Rattle.std.specs.List.{AllByRecursion}
use Rattle.ix_state.specs.Configs.{IsChooser}
use Rattle.ix_state.specs.Taken.{AreGiven}
use Rattle.ix_model.specs.Bounds.{AreTimes}
use Rattle.ix_model.specs.Given.{Chooser}
use Rattle.ix_model.specs.State.{State}
use Rattle.ix_model.specs.Step.{state_after}
use Rattle.ix_model.specs.declared.commands.TimedCommand.{TimedCommand}
use Rattle.ix_store.specs.Exporting.{HaveRecords}

-- the times of all events lie within 2^62 microseconds of the beginning of 1970, as those of a
-- state do that keeps the bounds of a store
abbrev pub HaveTimes : State → Type 0
HaveTimes m = AllByRecursion AreTimes m.catalog.indexes

-- Their moments have 64 bits, and their fields together fewer than 2^32 bytes.
abbrev pub EventsHaveRecords : Type 0
EventsHaveRecords =
    (choose : Chooser) (history : List TimedCommand) → IsChooser choose → AreGiven history → HaveTimes (state_after choose history) →
    HaveRecords (state_after choose history)
