-- What a history of commands leaves on a disk.
use Rattle.std.specs.Prelude.{ℕ, List, [], ◌∷◌, take}
use Rattle.ix_commit.specs.Snapshot.{Snapshot}
use Rattle.ix_model.specs.Given.{Chooser}
use Rattle.ix_model.specs.State.{State, empty}
use Rattle.ix_model.specs.Step.{state_after}
use Rattle.ix_model.specs.declared.commands.TimedCommand.{TimedCommand}
use Rattle.ix_model.specs.Books.{book_of, first_book}
use Rattle.ix_model.specs.Contents.{contents_of}

-- of a store that has accepted a command
abbrev pub snap : State → Snapshot
snap m = record { book = book_of m; contents = contents_of m.catalog }

abbrev pub first_snap : Snapshot
first_snap = record { book = first_book; contents = contents_of empty.catalog }

-- what a history leaves; a store that has accepted nothing keeps no more than that no settings are
-- set
abbrev pub snapshot_of : Chooser → List TimedCommand → Snapshot
snapshot_of choose [] = first_snap
snapshot_of choose (order ∷ history) = snap (state_after choose (order ∷ history))

-- what its first commands leave
abbrev pub snapshot_of_prefix : Chooser → List TimedCommand → ℕ → Snapshot
snapshot_of_prefix choose history n = snapshot_of choose (take n history)
