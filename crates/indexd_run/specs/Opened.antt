-- A run of the program over whatever stands on the disk at its start: a store is mounted, settings
-- are put in force, and commands are given.
use Rattle.std.specs.Prelude.{◌≡◌, ◌≤◌, ◌<◌, ◌⊎◌, ℕ, ℤ, Bool, true, false, List, [], ◌∷◌, length, take, Option, Some}
use Rattle.std.specs.List.{AllByRecursion}
use Rattle.ix_base.specs.Clocks.{Moments}
use Rattle.ix_disk.specs.Image.{Image}
use Rattle.ix_disk.specs.Moments.{Always}
use Rattle.ix_disk.specs.declared.disk.Disk.{Ghosts}
use Rattle.ix_manifest.specs.Book.{NamedItems}
use Rattle.ix_model.specs.Bounds.{IsFull}
use Rattle.ix_model.specs.Given.{Chooser}
use Rattle.ix_model.specs.Step.{state_after}
use Rattle.ix_model.specs.declared.commands.Command.TheVariants.{Configure}
use Rattle.ix_model.specs.declared.commands.Config.{Config}
use Rattle.ix_model.specs.declared.commands.TimedCommand.{TimedCommand}
use Rattle.ix_run.specs.Giving.{given_all}
use Rattle.ix_run.specs.Running.{StandsFrom}
use Rattle.ix_store.specs.Holding.{Represents}
use Rattle.ix_store.specs.Written.{IsNextRun, RecoversToPrefix}
use Rattle.ix_store.specs.declared.fault.MountFault.{MountFault}
use Rattle.ix_store.specs.declared.store.Store.{Store}
use Rattle.indexd_run.specs.Asked.{Asks}
use Rattle.indexd_run.specs.Ends.{AtMost, same_kept}
use Rattle.indexd_run.specs.Shortened.{HasHadItsRuns, HasRunsLeft}
use Rattle.indexd_run.specs.Stops.{of_mount, loses}
use Rattle.indexd_run.specs.declared.stop.Stop.{Stop}
use Rattle.indexd_run.specs.declared.stop.Stop.TheVariants as stops

-- What the disk at the start of a run stands for, where channels are chosen so: a prefix of this
-- history with its first `least` commands at least, and this run or a later one.
pub record Past : Type 0 where
  pub choose : Chooser
  pub history : List TimedCommand
  pub run : ℕ
  pub least : ℕ

abbrev pub past_of : Chooser → List TimedCommand → ℕ → ℕ → Past
past_of choose history run least = record { choose = choose; history = history; run = run; least = least }

-- an image stands for it
abbrev pub StandsFor : (NamedItems → Type 0) → Past → Image → Type 0
StandsFor fits past = RecoversToPrefix fits past.run past.choose past.history past.least

-- and so does whatever a crash at the start may leave
abbrev pub Begins : {D : Type 0} → Ghosts D → (NamedItems → Type 0) → Past → D → Type 0
Begins d fits past disk = (image : Image) → d.may_leave disk image → StandsFor fits past image

-- A run of the program with these settings: what the clock was to tell, and the disk, at its start
-- and at its exit.
pub record Course (D : Type 0) : Type 0 where
  pub config : Config
  pub ahead : Option Moments
  pub ahead' : Option Moments
  pub before : D
  pub disk : D

abbrev pub course : {D : Type 0} → Config → Option Moments → Option Moments → D → D → Course D
course config ahead ahead' before disk = record { config = config; ahead = ahead; ahead' = ahead'; before = before; disk = disk }

-- ---- settings

abbrev pub configuring : Config → ℤ → TimedCommand
configuring config moment = record { command = Configure config; moment = moment }

-- whether the settings in force are these
abbrev pub is_configured : Chooser → List TimedCommand → Config → Bool
is_configured choose mounted config = same_kept (state_after choose mounted).force config.kept

-- settings are put in force where others are
abbrev pub Configures : Bool → Config → List TimedCommand → Type 0
Configures true config orders = orders ≡ []
Configures false config orders = (moment : ℤ) × (orders ≡ configuring config moment ∷ [])

-- ---- what was given: over what was mounted, to put settings in force, and then

-- Orders that were given behind a history: how many commands of it were mounted, what the clock was
-- to tell then, and the history.
pub record Giving : Type 0 where
  pub mounted : ℕ
  pub ahead : Option Moments
  pub begun : List TimedCommand
  pub orders : List TimedCommand

abbrev pub giving : ℕ → Option Moments → List TimedCommand → List TimedCommand → Giving
giving mounted ahead begun orders = record { mounted = mounted; ahead = ahead; begun = begun; orders = orders }

-- what is said of them
abbrev pub Doing : Type 1
Doing = Giving → Type 0

-- Settings are in force, and the clock was asked for their command alone; and such orders were
-- given behind.
pub record WhenOpen (choose : Chooser) (config : Config) (ahead : Option Moments) (may : Doing)
    (mounted configured orders : List TimedCommand) : Type 0 where
  pub configures : Configures (is_configured choose mounted config) config configured
  pub told : Option Moments
  pub asked : Asks configured ahead told
  pub behind : may (giving (length mounted) told (given_all choose mounted configured) orders)

-- why settings are not put in force: there is no room for them in the store, or the disk failed, or
-- memory is short
abbrev pub IsUnset : Chooser → List TimedCommand → TimedCommand → Stop → Type 0
IsUnset choose mounted order stops.Memory = Unit {0}
IsUnset choose mounted order stops.Disk = Unit {0}
IsUnset choose mounted order (stops.Damaged file at) = Unit {0}
IsUnset choose mounted order stops.Inconsistent = ⊥
IsUnset choose mounted order stops.NotFound = ⊥
IsUnset choose mounted order stops.TooManyChannels = ⊥
IsUnset choose mounted order stops.Full = IsFull choose false 0 (state_after choose mounted) order
IsUnset choose mounted order stops.Output = ⊥
IsUnset choose mounted order stops.Input = ⊥
IsUnset choose mounted order stops.Endless = ⊥

-- Settings were to be put in force where others are, and the run stopped there. No other orders
-- were given, and the clock was asked once.
pub record WhenShut (choose : Chooser) (config : Config) (stop : Stop) (ahead ahead' : Option Moments)
    (mounted configured orders : List TimedCommand) : Type 0 where
  pub differ : is_configured choose mounted config ≡ false
  pub moment : ℤ
  pub asked : Asks (configuring config moment ∷ []) ahead ahead'
  pub at_most : AtMost (configuring config moment) configured
  pub why : IsUnset choose mounted (configuring config moment) stop
  pub none : orders ≡ []

-- ---- runs

-- Every image up to the answer of the mount stands for a prefix of what was there at the start, and
-- for the least run there or a later one; and every image from then on for one of what was mounted
-- and accepted since, with all that was mounted, and for this new run or a later one.
pub record Passes {D : Type 0} (d : Ghosts D) (fits : NamedItems → Type 0) (past : Past) (now : List TimedCommand) (new_run count : ℕ)
    (before disk : D) : Type 0 where
  -- the new run is later than each before it
  pub later : past.run < new_run
  pub mounted : D
  -- what was mounted stands first
  pub first : take count now ≡ take count past.history
  pub within : count ≤ length now
  pub up_to : Always d before mounted (StandsFor fits past)
  pub at_mount : (image : Image) → d.may_leave mounted image → RecoversToPrefix fits new_run past.choose now count image
  pub from_on : Always d mounted disk (RecoversToPrefix fits new_run past.choose now count)

-- as the disk reads, this is the run behind the one that it keeps
abbrev pub IsNewRun : {D : Type 0} → Ghosts D → (NamedItems → Type 0) → ℕ → D → Type 0
IsNewRun d fits run before = (image : Image) → d.seen before ≡ Some image → IsNextRun fits run image

-- the first `count` commands of the history, with these orders behind them
abbrev pub mounted_with : Past → ℕ → List TimedCommand → List TimedCommand
mounted_with past count orders = given_all past.choose (take count past.history) orders

-- A store was mounted with the first `count` commands of the history, in a new run, and the
-- settings are in force, for whose command alone the clock was asked. All is committed.
pub record HasOpened {D : Type 0} (d : Ghosts D) {M : Type 0} (fits : NamedItems → Type 0) (holds : Chooser → List TimedCommand → M →
    Type 0) (past : Past) (run : Course D) (store : Store M) : Type 0 where
  pub count : ℕ
  pub least : past.least ≤ count
  pub most : count ≤ length past.history
  pub configured : List TimedCommand
  pub configures : Configures (is_configured past.choose (take count past.history) run.config) run.config configured
  pub asked : Asks configured run.ahead run.ahead'
  pub runs_left : HasRunsLeft d fits run.before
  pub hold : Represents d fits holds past.choose (mounted_with past count configured) count
      (length (mounted_with past count configured)) store run.disk
  pub number : IsNewRun d fits store.run run.before
  pub passes : Passes d fits past (mounted_with past count configured) store.run count run.before run.disk

-- how many of all commands every image has behind the last commit: all, or where the disk failed
-- those that were mounted
abbrev pub lasting : Bool → ℕ → ℕ → ℕ
lasting true mounted all = mounted
lasting false mounted all = all

-- A run has mounted the first `count` commands of the history, put settings in force, and given
-- orders. It has a new number, and so has every image from the mount on, or a later one. From the
-- disk behind the last commit on every image has all commands; or where the disk failed, from the
-- mount on those that were mounted.
pub record HasRun (lost : Bool) {D : Type 0} (d : Ghosts D) (takes : TimedCommand → Type 0) (fits : NamedItems → Type 0) (past : Past)
    (may : List TimedCommand → List TimedCommand → List TimedCommand → Type 0) (before disk : D) : Type 0 where
  pub count : ℕ
  pub least : past.least ≤ count
  pub most : count ≤ length past.history
  pub configured : List TimedCommand
  pub orders : List TimedCommand
  -- the number of the run: there was one left, and it is the next
  pub new_run : ℕ
  pub number : IsNewRun d fits new_run before
  pub runs_left : HasRunsLeft d fits before
  pub allowed : may (take count past.history) configured orders
  pub given : AllByRecursion takes (given_all past.choose (mounted_with past count configured) orders)
  pub passes : Passes d fits past (given_all past.choose (mounted_with past count configured) orders) new_run count before disk
  pub committed : D
  pub lasts : StandsFrom d fits new_run past.choose (given_all past.choose (mounted_with past count configured) orders)
      (lasting lost count (length (given_all past.choose (mounted_with past count configured) orders))) committed disk

-- Nothing was mounted: the clock was not asked, and every image stands for what was there, and for
-- no earlier run. A store is full then where, as the disk reads, no further run is left; with one
-- that was mounted a run was.
pub record HasNotMounted (stop : Stop) {D : Type 0} (d : Ghosts D) (fits : NamedItems → Type 0) (past : Past) (run : Course D) : Type 0
  where
    pub fault : MountFault
    pub stop_is : stop ≡ of_mount fault
    pub sound : stop ≡ stops.Inconsistent → ⊥
    pub spent : stop ≡ stops.Full → HasHadItsRuns d fits run.before
    pub not_asked : run.ahead' ≡ run.ahead
    pub stood : Always d run.before run.disk (StandsFor fits past)

-- A run stopped before its settings were in force.
abbrev pub HasShut : Stop → {D : Type 0} → Ghosts D → (TimedCommand → Type 0) → (NamedItems → Type 0) → Past → Course D → Type 0
HasShut stop d takes fits past run =
    HasNotMounted stop d fits past run
    ⊎ HasRun (loses stop) d takes fits past (WhenShut past.choose run.config stop run.ahead run.ahead') run.before run.disk

-- It stopped so, and what else it works on is untouched; or behind that.
abbrev pub HasStopped : Stop → {D : Type 0} → Ghosts D → (TimedCommand → Type 0) → (NamedItems → Type 0) → Past → Course D → Type 0 →
    Doing → Type 0
HasStopped stop d takes fits past run untouched may =
    (HasShut stop d takes fits past run × untouched)
    ⊎ HasRun (loses stop) d takes fits past (WhenOpen past.choose run.config run.ahead may) run.before run.disk
