-- However a pass ends, the history goes on with each file that only grows.
use Rattle.std.proofs.Common.{◌≡◌, ℕ, Bool, false, List, [], ◌++◌, sym, subst}
use Rattle.std.specs.Prelude.{Option, Some, Result, Ok, Err}
use Rattle.std.specs.List.{AllByRecursion}
use Rattle.std.proofs.lemmas.Bool.{false≢true}
use Rattle.std.proofs.lemmas.List.{append-nil}
use Rattle.ix_base.specs.Clocks.{Moments}
use Rattle.ix_base.specs.Told.{IsFrontOf}
use Rattle.ix_fs.specs.declared.trees.TreeFile.{TreeFile}
use Rattle.ix_fs.specs.Trees.{bytes_at}
use Rattle.ix_disk.specs.declared.disk.Disk.{Ghosts}
use Rattle.ix_manifest.specs.Book.{NamedItems}
use Rattle.ix_monitor.specs.declared.watched.Watched.{Watched}
use Rattle.ix_model.specs.Given.{Chooser}
use Rattle.ix_model.specs.declared.commands.TimedCommand.{TimedCommand}
use Rattle.ix_store.specs.Holding.{Represents}
use Rattle.ix_store.specs.declared.store.Store.{Store}
use Rattle.ix_run.specs.Giving.{given_all}
use Rattle.ix_run.specs.Running.{AlwaysRecoverable, outset}
use Rattle.ix_run.specs.declared.giving.GiveFault.{GiveFault}
use Rattle.ix_run.specs.declared.giving.GiveFault.TheVariants as faults
use Rattle.ix_watch.specs.Watching.{IsWatched}
use Rattle.ix_watch.proofs.Growing.{watched_is_read}
use Rattle.ix_watch.proofs.Passed.{passes_follow}
use Rattle.ix_pass.specs.Filling.{gave_of}
use Rattle.ix_pass.specs.Going.{HasGoneOn}
use Rattle.ix_pass.specs.Passing.{VisitsAll, IsPass, Keeps}
use Rattle.ix_pass.specs.Visiting.{is_whole}
use Rattle.ix_pass.specs.declared.fault.PassFault.{PassFault}
use Rattle.ix_pass.proofs.Joining.{given_is, visits_less}
use Rattle.ix_pass.specs.Giving.{kind, change}

-- what of the commands that were tried is in a history for which every image stands
record Gave {D : Type 0} (d : Ghosts D) (fits : NamedItems →
    Type 0) (run : ℕ) (choose : Chooser) (h : List TimedCommand) (k : ℕ) (before disk : D) (orders : List TimedCommand) : Type 0 where
  pub given : List TimedCommand
  pub rest : List TimedCommand
  pub parts : orders ≡ given ++ rest
  pub stood : AlwaysRecoverable d fits run choose (given_all choose h given) k before disk

module _ {D : Type 0} (d : Ghosts D) {M : Type 0} (fits : NamedItems → Type 0) (holds : Chooser → List TimedCommand → M → Type 0) where
  gave : (run : ℕ) (choose : Chooser) (h : List TimedCommand) (base k : ℕ) (store : Store M) (before disk : D)
      (result : Result Unit GiveFault)
      (orders : List TimedCommand) → Keeps d fits holds (outset choose h base k run before) store disk result orders →
      Gave d fits run choose h k before disk orders
  gave run choose h base k store before disk (Ok done) orders keeps =
      record { given = orders; rest = []; parts = sym (append-nil orders); stood = keeps.stood }
  gave run choose h base k store before disk (Err (faults.Refused refusal)) orders keeps =
      record { given = keeps.given; rest = keeps.rest; parts = keeps.parts; stood = keeps.halts.1.stood }
  gave run choose h base k store before disk (Err (faults.Commit fault)) orders keeps =
      record { given = keeps.given; rest = keeps.rest; parts = keeps.parts; stood = keeps.halts }

  pub passes_go_on : (is_chooser : Chooser → Type 0) (takes : TimedCommand →
      Type 0) (choose : Chooser) (history : List TimedCommand) (base k : ℕ) (files : List TreeFile) (watched : List Watched) (close : Bool)
      (ahead ahead' : Option Moments) (was bytes path : List ℕ)
      (result : Result (List ℕ) PassFault) (old new : Store M) (before disk : D) →
      is_chooser choose → AllByRecursion takes history → Represents d fits holds choose history base k old before →
      VisitsAll result watched ahead ahead' (IsPass d (kind is_chooser takes fits holds) (Some files) close result
      (change old before new disk)) →
      IsWatched was path history → IsFrontOf was bytes → bytes_at files path ≡ Some bytes →
      HasGoneOn d fits old.run choose bytes path k before disk
  passes_go_on is_chooser takes choose history base k files watched close ahead ahead' was bytes path result old new before disk chooser
      taken hold all on front told =
      let what = gave old.run choose history base k new before disk (gave_of result) all.orders
      (all.done.kept choose history base k chooser taken hold) in
      let follows : IsWatched bytes path (given_all choose history what.given) =
      subst (λ (l : List TimedCommand). IsWatched bytes path l) (sym (given_is choose history what.given))
      (passes_follow choose files close false ahead ahead' history what.given was bytes path on front told
      (record {
        visits = all.visits;
        tried = all.orders;
        rest = what.rest;
        parts = what.parts;
        all = λ e. absurd (false≢true e);
        asked = all.asked;
        are = visits_less choose (Some files) close (is_whole result) history all.visits all.orders
            (all.done.are choose history base k chooser taken hold);
      })) in
      record {
        now = given_all choose history what.given;
        watched = follows;
        read = λ n. watched_is_read choose bytes path (given_all choose history what.given) n follows;
        stood = what.stood;
      }
