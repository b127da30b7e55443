-- A run of the program that serves requests, over whatever stands on the disk at its start: a store
-- is mounted, settings are put in force, requests are served, and the log is made short where it is
-- long.
use Rattle.std.specs.Prelude.{◌≡◌, ◌≤◌, ℕ, true, List, length, take, Option}
use Rattle.std.specs.List.{AllByRecursion}
use Rattle.ix_base.specs.Clocks.{Moments}
use Rattle.ix_base.specs.Told.{HasWritten, HasBegun}
use Rattle.ix_disk.specs.Image.{Image}
use Rattle.ix_disk.specs.Moments.{Always}
use Rattle.ix_disk.specs.declared.disk.Disk.{Ghosts}
use Rattle.ix_manifest.specs.Book.{NamedItems}
use Rattle.ix_model.specs.declared.commands.TimedCommand.{TimedCommand}
use Rattle.ix_serve.specs.Serving.{IsTold}
use Rattle.ix_store.specs.Written.{RecoversTo}
use Rattle.ix_sessions.specs.Connections as connections
use Rattle.ix_sessions.specs.Connections.{Visit, AreVisits, EndsIn, Listened, HasHeard, turns_of}
use Rattle.ix_sessions.specs.Feeding.{Start, start, coming, Turn, AreTurns, AreTold, EndsAs, Has, IsWholeEnd, is_open_end, output}
use Rattle.ix_sessions.specs.Feeding.{disk_after, history_after, known}
use Rattle.ix_sessions.specs.declared.feed.Fed.{Fed}
use Rattle.ix_sessions.specs.declared.serve.Heard.{Heard}
use Rattle.indexd_serve.specs.Ends.{FedBehind, HeardBehind}
use Rattle.indexd_serve.specs.declared.end.ServeEnd.{ServeEnd}
use Rattle.indexd_run.specs.Asked.{Asks}
use Rattle.indexd_run.specs.Opened.{Past, mounted_with, Course, is_configured, Configures, IsNewRun, Passes}
use Rattle.indexd_run.specs.Shortened.{HasRunsLeft}

-- Requests over an open store: what they begin with, what the clock is to tell before and behind
-- them, the history behind them, and the disk then.
pub record Session (D : Type 0) : Type 0 where
  pub begun : Start D
  pub ahead : Option Moments
  pub ahead' : Option Moments
  pub now : List TimedCommand
  pub disk : D

abbrev pub session : {D : Type 0} → Start D → Option Moments → Option Moments → List TimedCommand → D → Session D
session begun ahead ahead' now disk = record { begun = begun; ahead = ahead; ahead' = ahead'; now = now; disk = disk }

-- what is said of them
abbrev pub Serving : Type 0 → Type 1
Serving D = Session D → Type 0

-- What a link has left to be read, and what was written to it, before and behind.
pub record Exchange : Type 0 where
  pub left : Option (List ℕ)
  pub left' : Option (List ℕ)
  pub given : Option (List ℕ)
  pub given' : Option (List ℕ)

abbrev pub exchange : Option (List ℕ) → Option (List ℕ) → Option (List ℕ) → Option (List ℕ) → Exchange
exchange left left' given given' = record { left = left; left' = left'; given = given; given' = given' }

-- Requests of one link, one behind the other. They ended as `first`, and the run ended as `end`.
-- All replies were written where `clean` holds, and where `first` is no fault.
pub record Requests {D : Type 0} (d : Ghosts D) (fits : NamedItems → Type 0) (end : Fed) (clean : Type 0) (link : Exchange) (s : Session D) :
    Type 0 where
  pub turns : List (Turn D)
  pub now_is : s.now ≡ history_after s.begun turns
  pub are : AreTurns d fits s.begun turns (coming link.left s.ahead) (coming link.left' s.ahead')
  pub first : Fed
  pub ends : EndsAs first turns
  pub ends_behind : FedBehind first end
  pub written : IsWholeEnd first → HasWritten (output turns) link.given link.given'
  pub sent : clean → HasWritten (output turns) link.given link.given'
  pub begun : HasBegun (output turns) link.given link.given'
  pub told : IsTold d s.begun.disk → AreTold d turns
  -- behind them every image has all that is known as committed then, and so each command of which a
  -- reply tells that it is stored
  pub behind : Always d (disk_after s.begun turns) s.disk (Has fits s.begun turns (known s.begun turns))
  -- all that was accepted is in every image, unless the disk was at fault before the log was made
  -- short
  pub all : is_open_end first ≡ true → (image : Image) → d.may_leave s.disk image →
      RecoversTo fits s.begun.run s.begun.choose s.now image

-- Connections of a listener, one request each, of which so many were to be served. They ended as
-- `first`, and the run ended as `end`. The listener tells of each connection what it held and what
-- was written on it.
pub record Connections {D : Type 0} (d : Ghosts D) (fits : NamedItems → Type 0) (requests : ℕ) (end : ServeEnd) (from to : Listened)
    (s : Session D) : Type 0 where
  pub visits : List (Visit D)
  pub now_is : s.now ≡ history_after s.begun (turns_of visits)
  pub are : AreVisits d fits s.begun visits s.ahead s.ahead'
  pub first : Heard
  pub ends : EndsIn requests first visits
  pub ends_behind : HeardBehind first end
  pub heard : HasHeard visits from to
  pub told : IsTold d s.begun.disk → AreTold d (turns_of visits)
  -- behind them every image has all that is known as committed then, and so each command of which a
  -- reply tells that it is stored
  pub behind : Always d (disk_after s.begun (turns_of visits)) s.disk
      (Has fits s.begun (turns_of visits) (known s.begun (turns_of visits)))
  -- all that was accepted is in every image, unless the disk was at fault before the log was made
  -- short
  pub all : connections.is_open_end first ≡ true → (image : Image) → d.may_leave s.disk image →
      RecoversTo fits s.begun.run s.begun.choose s.now image

-- what requests begin with over a store that was mounted with the first `count` commands of a
-- history, and has these settings in force: all of it is committed
abbrev pub begun_with : {D : Type 0} → Past → ℕ → List TimedCommand → ℕ → D → Start D
begun_with past count configured run disk =
    start past.choose (mounted_with past count configured) count (length (mounted_with past count configured)) run disk

-- A store was mounted with the first `count` commands of the history, the settings were put in
-- force, for whose command alone the clock was asked, and requests were served behind these. The
-- run has a new number, later than that of each run before it, and what was given may be given
-- again.
pub record HasServed {D : Type 0} (d : Ghosts D) (takes : TimedCommand → Type 0) (fits : NamedItems → Type 0) (past : Past) (run : Course D)
    (serves : Serving D) : Type 0 where
  pub count : ℕ
  pub least : past.least ≤ count
  pub most : count ≤ length past.history
  pub configured : List TimedCommand
  pub configures : Configures (is_configured past.choose (take count past.history) run.config) run.config configured
  pub told : Option Moments
  pub asked : Asks configured run.ahead told
  -- the number of the run, the disk when the requests began, and the history behind them
  pub new_run : ℕ
  pub number : IsNewRun d fits new_run run.before
  pub middle : D
  pub now : List TimedCommand
  -- a disk that tells what it reads does so still when they begin
  pub tells : IsTold d run.before → IsTold d middle
  pub runs_left : HasRunsLeft d fits run.before
  pub served : serves (session (begun_with past count configured new_run middle) told run.ahead' now run.disk)
  pub given : AllByRecursion takes now
  pub passes : Passes d fits past now new_run count run.before run.disk
