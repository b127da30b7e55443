-- Runs that monitor a file which only grows go on with it.
use Rattle.std.proofs.Common.{◌≡◌, ℕ, ℤ, Bool, true, false, List, [], ◌∷◌, map, take, sym, subst, inl, inr, ◌⊎◌}
use Rattle.std.specs.Prelude.{Option, Some, None, Result}
use Rattle.std.proofs.lemmas.List.{map-append}
use Rattle.ix_base.specs.Clocks.{Moments}
use Rattle.ix_fs.specs.declared.trees.TreeFile.{TreeFile}
use Rattle.ix_disk.specs.declared.disk.Disk.{Ghosts}
use Rattle.ix_manifest.specs.Book.{NamedItems}
use Rattle.ix_monitor.specs.declared.inputs.Input.{Input}
use Rattle.ix_model.specs.Given.{Chooser}
use Rattle.ix_model.specs.declared.commands.Command.{Command}
use Rattle.ix_model.specs.declared.commands.Command.TheVariants.{Configure}
use Rattle.ix_model.specs.declared.commands.Config.{Config}
use Rattle.ix_model.specs.declared.commands.TimedCommand.{TimedCommand}
use Rattle.ix_run.specs.Giving.{given_all}
use Rattle.ix_watch.proofs.Following.{both_follow, longer_is_watched}
use Rattle.ix_watch.proofs.Growing.{front_follows, watched_is_read}
use Rattle.ix_watch.proofs.Passed.{passes_follow}
use Rattle.ix_watch.specs.Watching.{AllFollow, IsWatched, command_of}
use Rattle.ix_pass.proofs.Joining.{given_is}
use Rattle.indexd_run.specs.Ends.{AtMost}
use Rattle.indexd_run.specs.Opened.{Past, Course, configuring, is_configured, Configures, WhenOpen, WhenShut, HasRun, HasStopped}
use Rattle.indexd_run.specs.Stops.{loses}
use Rattle.indexd_run.specs.declared.stop.Stop.{Stop}
use Rattle.indexd_monitor.specs.Growing.{ReadsOn, HasReadOn, HasReadNone, Grows}
use Rattle.indexd_monitor.specs.Monitored.{is_whole, HasMonitored}

module _ (choose : Chooser) (file path : List ℕ) (config : Config) (h : List TimedCommand) (on : IsWatched file path h) where
  one_setting : (configured : List TimedCommand) (moment : ℤ) → configured ≡ configuring config moment ∷ [] →
      IsWatched file path (given_all choose h configured)
  one_setting configured moment is = subst (λ (os : List TimedCommand). IsWatched file path (given_all choose h os)) (sym is)
      (subst (λ (l : List Command). AllFollow file path None l) (sym (map-append command_of h (configuring config moment ∷ [])))
      (both_follow file path None (map command_of h) (Configure config ∷ []) on (tt, tt)))

  no_setting : (configured : List TimedCommand) → configured ≡ [] → IsWatched file path (given_all choose h configured)
  no_setting configured is = subst (λ (os : List TimedCommand). IsWatched file path (given_all choose h os)) (sym is) on

  configured_on : (same : Bool) (configured : List TimedCommand) → Configures same config configured →
      IsWatched file path (given_all choose h configured)
  configured_on true configured is = no_setting configured is
  configured_on false configured is = one_setting configured is.0 is.1

  at_most_on : (moment : ℤ) (configured : List TimedCommand) → AtMost (configuring config moment) configured →
      IsWatched file path (given_all choose h configured)
  at_most_on moment configured (inl is) = no_setting configured is
  at_most_on moment configured (inr is) = one_setting configured moment is

reads : (past : Past) (file path : List ℕ) (history : List TimedCommand) → IsWatched file path history → ReadsOn past file path history
reads past file path history on = record { watched = on; read = λ n. watched_is_read past.choose file path history n on }

module _ {D : Type 0} (d : Ghosts D) (takes : TimedCommand → Type 0) (fits : NamedItems → Type 0) where
  pub runs_on : (past : Past) (config : Config) (ahead ahead' : Option Moments) (files : List TreeFile) (inputs : List Input)
      (close lost : Bool) (result : Result Unit Stop) (out out' : Option (List ℕ)) (path before file : List ℕ) (start exit : D) →
      IsWatched before path past.history → Grows files path before file →
      HasRun lost d takes fits past (WhenOpen past.choose config ahead
      (HasMonitored past.choose (Some files) inputs close result ahead' out out')) start exit →
      HasReadOn d fits past file path start exit
  runs_on past config ahead ahead' files inputs close lost result out out' path before file start exit on grows run =
      let mounted : IsWatched before path (take run.count past.history) = front_follows before path None run.count past.history on in
      let begun = given_all past.choose (take run.count past.history) run.configured in
      let configured : IsWatched before path begun =
      configured_on past.choose before path config (take run.count past.history) mounted
      (is_configured past.choose (take run.count past.history) config) run.configured run.allowed.configures in
      let now = given_all past.choose begun run.orders in
      let all : IsWatched file path now = subst (λ (l : List TimedCommand). IsWatched file path l) (sym (given_is past.choose begun
      run.orders))
      (passes_follow past.choose files close (is_whole result) run.allowed.told ahead' begun run.orders before file path configured
      grows.front grows.told run.allowed.behind.pass) in
      record {
        was = reads past file path past.history (longer_is_watched before file path past.history grows.front on);
        now = now;
        new_run = run.new_run;
        count = run.count;
        reads = reads past file path now all;
        passes = run.passes;
      }

  -- settings alone were given, or nothing
  shut_on : (past : Past) (config : Config) (stop : Stop) (ahead ahead' : Option Moments) (files : List TreeFile) (lost : Bool)
      (path before file : List ℕ) (start exit : D) →
      IsWatched before path past.history → Grows files path before file →
      HasRun lost d takes fits past (WhenShut past.choose config stop ahead ahead') start exit → HasReadOn d fits past file path start exit
  shut_on past config stop ahead ahead' files lost path before file start exit on grows run =
      let longer : IsWatched file path past.history = longer_is_watched before file path past.history grows.front on in
      let mounted : IsWatched file path (take run.count past.history) = front_follows file path None run.count past.history longer in
      let begun = given_all past.choose (take run.count past.history) run.configured in
      let configured : IsWatched file path begun =
      at_most_on past.choose file path config (take run.count past.history) mounted run.allowed.moment run.configured run.allowed.at_most in
      let now = given_all past.choose begun run.orders in
      let all : IsWatched file path now = subst (λ (os : List TimedCommand). IsWatched file path (given_all past.choose begun os))
      (sym run.allowed.none) configured in
      record {
        was = reads past file path past.history longer;
        now = now;
        new_run = run.new_run;
        count = run.count;
        reads = reads past file path now all;
        passes = run.passes;
      }

  pub stops_on : (past : Past) (run : Course D) (stop : Stop) (files : List TreeFile) (inputs : List Input)
      (close : Bool) (result : Result Unit Stop) (out out' : Option (List ℕ)) (path before file : List ℕ) →
      IsWatched before path past.history → Grows files path before file →
      HasStopped stop d takes fits past run (out' ≡ out) (HasMonitored past.choose (Some files) inputs close result run.ahead' out out') →
      HasReadNone d fits past file path run.before run.disk ⊎ HasReadOn d fits past file path run.before run.disk
  stops_on past run stop files inputs close result out out' path before file on grows (inl (inl not, same)) = inl (record {
    was = reads past file path past.history (longer_is_watched before file path past.history grows.front on);
    stood = not.stood;
  })
  stops_on past run stop files inputs close result out out' path before file on grows (inl (inr shut, same)) =
      inr (shut_on past run.config stop run.ahead run.ahead' files (loses stop) path before file run.before run.disk on grows shut)
  stops_on past run stop files inputs close result out out' path before file on grows (inr ran) =
      inr (runs_on past run.config run.ahead run.ahead' files inputs close (loses stop) result out out' path before file run.before run.disk
      on grows ran)
