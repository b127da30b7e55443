-- What a first run leaves for a second one, with no premise on histories, and what a selftest writes,
-- with none on choosers.
use Rattle.std.specs.Prelude.{◌≡◌, ◌<◌, ◌⊎◌, ◌++◌, ℕ, Bool, true, List, [], length, Option}
use Rattle.ix_base.specs.Told.{HasWritten}
use Rattle.ix_disk.specs.declared.disk.Disk.{Ghosts}
use Rattle.ix_model.specs.Given.{Chooser}
use Rattle.ix_model.specs.Shown.{view}
use Rattle.ix_model.specs.Step.{state_after}
use Rattle.ix_model.specs.declared.commands.Config.{Config}
use Rattle.ix_model.specs.declared.commands.TimedCommand.{TimedCommand}
use Rattle.ix_report.specs.Listing.{listing}
use Rattle.ix_run.specs.Giving.{given_all}
use Rattle.indexd_selftest.specs.Blocks.{AreCut}
use Rattle.indexd_selftest.specs.History.{AreInForce, first_line, orders}
use Rattle.indexd_selftest.specs.Lines.{stream}
use Rattle.indexd_run.specs.Opened.{past_of}
use Rattle.indexd_cli.specs.Orders.{asked}
use Rattle.indexd_core.specs.Chain.{MayRun, MayGoOn}
use Rattle.indexd_core.specs.Commands.{is_task, AskStore, AskFeed, AskServe, AskMonitor}
use Rattle.indexd_core.specs.Prepared.{Stated}
use Rattle.indexd_core.specs.declared.status.Status.{Status}
use Rattle.indexd_core.specs.declared.status.Status.TheVariants.{Done}

-- every image that a crash may leave stands for all of one history of commands and a run that was
-- begun, and a second run may begin over that
pub record HasHistory {D : Type 0} (d : Ghosts D) (disk : D) : Type 0 where
  pub choose : Chooser
  pub history : List TimedCommand
  pub run : ℕ
  pub begun : 0 < run
  pub may_run : MayRun d (past_of choose history run (length history)) disk

-- Whatever the status is, a second run may begin over some history; and at `Done` over one that
-- every image has whole.
pub record GoesOn (status : Status) {D : Type 0} (d : Ghosts D) (disk : D) : Type 0 where
  pub choose : Chooser
  pub again : MayGoOn d (past_of choose [] 0 0) disk
  pub whole : status ≡ Done → HasHistory d disk

-- a run over some history may begin here
abbrev pub IsLeftOpen : {D : Type 0} → Ghosts D → D → Type 0
IsLeftOpen d disk = (choose : Chooser) × MayGoOn d (past_of choose [] 0 0) disk

-- the words ask for a run over a store: a task, an input that is stored, requests, connections, or
-- files that are watched
abbrev pub IsOverStore : List (List ℕ) → Type 0
IsOverStore words =
    (is_task (asked words) ≡ true) ⊎ ((stated : Stated) × AskStore words stated) ⊎ AskFeed words
    ⊎ ((port : ℕ) × (requests : ℕ) × AskServe words port requests) ⊎ ((close : Bool) × AskMonitor words close)

-- What was written is the first line of a selftest, and the listing of a state that its commands
-- lead to.
pub record HasListed (seed count : ℕ) (told told' : Option (List ℕ)) : Type 0 where
  pub choose : Chooser
  pub config : Config
  pub in_force : AreInForce config
  pub blocks : List (List ℕ)
  pub cut : AreCut seed (stream count) blocks
  pub written : HasWritten (first_line seed count ++ listing (view (state_after choose (given_all choose [] (orders config blocks))))) told
      told'
