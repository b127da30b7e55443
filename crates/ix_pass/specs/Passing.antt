-- Watched files are visited one behind the other, over a store.
use Rattle.std.specs.Prelude.{◌≡◌, ◌≤◌, ◌++◌, ℕ, ℤ, Bool, true, List, [], length, map, Option, Result, Ok, Err, IfOk}
use Rattle.std.specs.List.{AllByRecursion}
use Rattle.ix_base.specs.Clocks.{Moments}
use Rattle.ix_fs.specs.declared.trees.TreeFile.{TreeFile}
use Rattle.ix_disk.specs.declared.disk.Disk.{Ghosts}
use Rattle.ix_manifest.specs.Book.{NamedItems}
use Rattle.ix_monitor.specs.declared.watched.Watched.{Watched}
use Rattle.ix_model.specs.Given.{Chooser}
use Rattle.ix_model.specs.declared.commands.Command.TheVariants.{Begin, End}
use Rattle.ix_model.specs.declared.commands.TimedCommand.{TimedCommand}
use Rattle.ix_store.specs.Holding.{Represents}
use Rattle.ix_store.specs.declared.store.Store.{Store}
use Rattle.ix_run.specs.Giving.{given_all, HasKeptAll}
use Rattle.ix_run.specs.Running.{AlwaysRecoverable, Outset, outset}
use Rattle.ix_run.specs.Storing.{HasHalted}
use Rattle.ix_run.specs.declared.giving.GiveFault.{GiveFault}
use Rattle.ix_watch.specs.Passes.{Visit, file_of, lines, Asks, AreVisited}
use Rattle.ix_watch.specs.Visits.{added}
use Rattle.ix_watch.specs.Watching.{channel_of}
use Rattle.ix_pass.specs.Filling.{gave_of}
use Rattle.ix_pass.specs.Giving.{Went, order_at, Kind, Change}
use Rattle.ix_pass.specs.Visiting.{is_whole}
use Rattle.ix_pass.specs.declared.fault.PassFault.{PassFault}

-- What may be given for a file.
pub record MayVisit (takes : TimedCommand → Type 0) (file : Watched) : Type 0 where
  pub begins : (moment : ℤ) → takes (order_at (Begin (channel_of file.path) file.meta) moment)
  pub ends : (moment : ℤ) → takes (order_at (End (channel_of file.path)) moment)
  pub adds : (moment : ℤ) (head : List ℕ) (at : ℕ) (bytes : List ℕ) → length head ≤ 256 → length bytes ≤ 1048576 →
      takes (order_at (added file.path head at bytes) moment)

-- ---- visits

-- These files were visited one behind the other, all of them where nothing failed, and the clock
-- was asked for each command that was tried.
pub record VisitsAll {T E : Type 0} (result : Result T E) (files : List Watched) (ahead ahead' : Option Moments) (outcome : List Visit →
    List TimedCommand → Type 0) : Type 0 where
  pub visits : List Visit
  pub orders : List TimedCommand
  pub rest : List Watched
  pub files_are : files ≡ map file_of visits ++ rest
  pub whole : is_whole result ≡ true → rest ≡ []
  pub asked : Asks orders ahead ahead'
  pub done : outcome visits orders

-- What was done with them: the commands were given, or the first of them; behind each history that
-- was held before these are the visits; and the text is their lines.
pub record HasVisited {D : Type 0} (d : Ghosts D) {M : Type 0} (kind : Kind M) (files : Option (List TreeFile)) (close : Bool)
    (result : Result (List ℕ) PassFault) (held : Change M D) (visits : List Visit) (orders : List TimedCommand) : Type 0 where
  pub went : Went d kind (gave_of result) orders held
  pub are : (choose : Chooser) (history : List TimedCommand) (base k : ℕ) → kind.is_chooser choose → AllByRecursion kind.takes history →
      Represents d kind.fits kind.holds choose history base k held.store held.disk →
      AreVisited choose files close (is_whole result) history visits orders
  pub text : IfOk result (λ text. text ≡ lines visits)

-- ---- a pass

-- Of the commands that were tried all are given, or those before one that the store refused for its
-- cause, and what is given is committed; or the disk failed at a commit, and every image since
-- stood for a prefix.
abbrev pub Keeps : {D : Type 0} → Ghosts D → {M : Type 0} → (NamedItems → Type 0) → (Chooser → List TimedCommand → M → Type 0) →
    Outset D → Store M → D → Result Unit GiveFault → List TimedCommand → Type 0
Keeps d fits holds s store disk (Ok done) orders = HasKeptAll d fits holds s orders store disk
Keeps d fits holds s store disk (Err fault) orders =
    HasHalted s.choose s.history s.base (λ given. HasKeptAll d fits holds s given store disk)
    (λ given. AlwaysRecoverable d fits s.run s.choose (given_all s.choose s.history given) s.kept s.disk disk) fault orders

-- What a pass has done: the files were visited so, and what was given is kept.
pub record IsPass {D : Type 0} (d : Ghosts D) {M : Type 0} (kind : Kind M) (files : Option (List TreeFile)) (close : Bool)
    (result : Result (List ℕ) PassFault) (held : Change M D) (visits : List Visit) (orders : List TimedCommand) : Type 0 where
  pub taken : AllByRecursion kind.takes orders
  pub are : (choose : Chooser) (history : List TimedCommand) (base k : ℕ) → kind.is_chooser choose → AllByRecursion kind.takes history →
      Represents d kind.fits kind.holds choose history base k held.store held.disk →
      AreVisited choose files close (is_whole result) history visits orders
  pub kept : (choose : Chooser) (history : List TimedCommand) (base k : ℕ) → kind.is_chooser choose → AllByRecursion kind.takes history →
      Represents d kind.fits kind.holds choose history base k held.store held.disk →
      Keeps d kind.fits kind.holds (outset choose history base k held.store.run held.disk) held.store' held.disk' (gave_of result) orders
  pub text : IfOk result (λ text. text ≡ lines visits)
