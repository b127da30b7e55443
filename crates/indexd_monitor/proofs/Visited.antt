-- What is said of the files that a run has visited, by what the run ends with.
use Rattle.std.proofs.Common.{◌≡◌, ◌⊎◌, ◌∙◌, ℕ, Bool, true, false, List, [], length, map, refl, sym, ap, subst, inl, inr}
use Rattle.std.proofs.lemmas.Bool.{false≢true}
use Rattle.std.specs.Prelude.{Option, Some, None, IfSome, Result, Ok, Err, OnOk, OnErr, IfErr}
use Rattle.ix_base.specs.Clocks.{Moments}
use Rattle.ix_base.specs.Told.{HasWritten, HasBegun}
use Rattle.ix_fs.specs.declared.trees.TreeFault.{TreeFault}
use Rattle.ix_fs.specs.declared.trees.TreeFault.TheVariants as trees
use Rattle.ix_fs.specs.declared.trees.TreeFile.{TreeFile}
use Rattle.ix_disk.specs.declared.disk.Disk.{Ghosts}
use Rattle.ix_manifest.specs.Book.{NamedItems}
use Rattle.ix_monitor.specs.declared.inputs.Input.{Input}
use Rattle.ix_monitor.specs.declared.watched.Watched.{Watched}
use Rattle.ix_files.specs.Sought.{sought}
use Rattle.ix_model.specs.Given.{Chooser}
use Rattle.ix_model.specs.declared.commands.TimedCommand.{TimedCommand}
use Rattle.ix_run.specs.Running.{outset}
use Rattle.ix_store.specs.declared.store.Store.{Store}
use Rattle.ix_watch.specs.Passes.{file_of, lines, AreVisited}
use Rattle.ix_pass.proofs.Joining.{visits_less}
use Rattle.indexd_run.proofs.Shortening.{by_fault}
use Rattle.indexd_run.proofs.Tasks.{left_weaker, ends_safe}
use Rattle.indexd_run.specs.Ends.{IsLeft, Ends}
use Rattle.indexd_run.specs.Opened.{Giving, giving}
use Rattle.indexd_run.specs.Shortened.{IsOfCheckpoint}
use Rattle.indexd_run.specs.Stops.{loses, loses_in, is_output}
use Rattle.indexd_run.specs.declared.stop.Stop.{Stop}
use Rattle.indexd_run.specs.declared.stop.Stop.TheVariants as stops
use Rattle.indexd_monitor.proofs.Stopping.{quiet_tree}
use Rattle.indexd_monitor.specs.Monitored.{of_tree, is_whole, IsWhy, IsEnd, Visits, WritesAt, Writes, HasText, HasVisited}

-- the files were not found: none is visited
pub none_visited : (choose : Chooser) (files : Option (List TreeFile)) (inputs : List Input) (close : Bool) (fault : TreeFault)
    (ahead : Option Moments) (mounted : ℕ) (begun : List TimedCommand) →
    HasVisited {T = List ℕ} choose files inputs close (Err (of_tree fault)) (HasText (Err (of_tree fault))) ahead
    (giving mounted ahead begun [])
none_visited choose files inputs close fault ahead mounted begun = record {
  pass = record { visits = []; tried = []; rest = []; parts = refl; all = λ e. refl; asked = refl; are = refl };
  own = tt;
  sought = none_of files;
  why = why fault;
  text = tt;
}
  where
    none_of : (files : Option (List TreeFile)) → IfSome files (λ all. Visits (is_output (of_tree fault)) (sought all inputs) [])
    none_of None = tt
    none_of (Some all) = record {
      rest = sought all inputs;
      all_are = refl;
      every = λ e. absurd (false≢true (sym (quiet_tree fault) ∙ e));
    }

    why : (fault : TreeFault) → IsWhy choose mounted begun (of_tree fault) [] []
    why trees.Failed = refl
    why trees.Missing = refl
    why trees.NoMemory = tt

module _ (choose : Chooser) (files : Option (List TreeFile)) (inputs : List Input) (close : Bool) (ahead' : Option Moments) (was : Giving)
  where
    -- The same visits, of which as much is said.
    same_end : {T U : Type 0} (result : Result T Stop) (ending : Result U Stop) (says told : List ℕ → Type 0) →
        is_whole ending ≡ is_whole result →
        ((rest : List TimedCommand) → IsEnd choose was.mounted was.begun result was.orders rest →
        IsEnd choose was.mounted was.begun ending was.orders rest) → ((text : List ℕ) → says text → told text) →
        HasVisited choose files inputs close result says ahead' was → HasVisited choose files inputs close ending told ahead' was
    same_end result ending says told same why text visited = record {
      pass = record {
        visits = visited.pass.visits;
        tried = visited.pass.tried;
        rest = visited.pass.rest;
        parts = visited.pass.parts;
        all = λ e. visited.pass.all (sym same ∙ e);
        asked = visited.pass.asked;
        are = subst (λ (w : Bool). AreVisited choose files close w was.begun visited.pass.visits visited.pass.tried) (sym same)
            visited.pass.are;
      };
      own = visited.own;
      sought = subst (λ (w : Bool). IfSome files (λ all. Visits w (sought all inputs) (map file_of visited.pass.visits))) (sym same)
          visited.sought;
      why = why visited.pass.rest visited.why;
      text = text (lines visited.pass.visits) visited.text;
    }

    -- where it is not said that they are all
    less_sought : (whole : Bool) (files : Option (List TreeFile)) (visited : List Watched) →
        IfSome files (λ all. Visits whole (sought all inputs) visited) → IfSome files (λ all. Visits false (sought all inputs) visited)
    less_sought whole None visited is = tt
    less_sought whole (Some all) visited is = record { rest = is.rest; all_are = is.all_are; every = λ e. absurd (false≢true e) }

    part_end : {T U : Type 0} (result : Result T Stop) (ending : Result U Stop) (says told : List ℕ → Type 0) → is_whole ending ≡ false →
        ((rest : List TimedCommand) → IsEnd choose was.mounted was.begun result was.orders rest →
        IsEnd choose was.mounted was.begun ending was.orders rest) → ((text : List ℕ) → says text → told text) →
        HasVisited choose files inputs close result says ahead' was → HasVisited choose files inputs close ending told ahead' was
    part_end result ending says told part why text visited = record {
      pass = record {
        visits = visited.pass.visits;
        tried = visited.pass.tried;
        rest = visited.pass.rest;
        parts = visited.pass.parts;
        all = λ e. absurd (false≢true (sym part ∙ e));
        asked = visited.pass.asked;
        are = subst (λ (w : Bool). AreVisited choose files close w was.begun visited.pass.visits visited.pass.tried) (sym part)
            (visits_less choose files close (is_whole result) was.begun visited.pass.visits visited.pass.tried visited.pass.are);
      };
      own = visited.own;
      sought = subst (λ (w : Bool). IfSome files (λ all. Visits w (sought all inputs) (map file_of visited.pass.visits))) (sym part)
          (less_sought (is_whole result) files (map file_of visited.pass.visits) visited.sought);
      why = why visited.pass.rest visited.why;
      text = text (lines visited.pass.visits) visited.text;
    }

    -- ---- behind the pass the log is made short

    abbrev pub Whole : List ℕ → Type 0
    Whole text = HasVisited {T = List ℕ} choose files inputs close (Ok text) (HasText (Ok text)) ahead' was

    abbrev pub Part : Stop → Type 0
    Part stop = HasVisited {T = List ℕ} choose files inputs close (Err stop) (HasText (Err stop)) ahead' was

    quiet : (other : Stop) → IsOfCheckpoint other → is_output other ≡ false
    quiet other why = by_fault (λ (s : Stop). is_output s ≡ false) other refl refl why

    pub short_end : (text : List ℕ) (other : Stop) → IsOfCheckpoint other → Whole text → Part other
    short_end text other why visited =
        part_end {T = List ℕ} {U = List ℕ} (Ok text) (Err other) (HasText (Ok text)) (HasText (Err other)) (quiet other why)
        (λ rest is. by_fault (λ (s : Stop). IsWhy choose was.mounted was.begun s was.orders rest) other tt tt why)
        (λ line is. tt) visited

    pub other_end : (stop other : Stop) → (other ≡ stop) ⊎ IsOfCheckpoint other → Part stop → Part other
    other_end stop other (inl is) visited = subst Part (sym is) visited
    other_end stop other (inr why) visited =
        part_end {T = List ℕ} {U = List ℕ} (Err stop) (Err other) (HasText (Err stop)) (HasText (Err other)) (quiet other why)
        (λ rest is. by_fault (λ (s : Stop). IsWhy choose was.mounted was.begun s was.orders rest) other tt tt why)
        (λ line is. tt) visited

    -- ---- and the lines are written, or are not

    pub said : (text : List ℕ) (result : Result Unit Stop) (out out' : Option (List ℕ)) → OnOk result (HasWritten text out out') →
        OnErr result (HasBegun text out out') → IfErr result (λ stop. stop ≡ stops.Output) → Whole text →
        HasVisited choose files inputs close result (Writes result out out') ahead' was
    said text (Ok done) out out' written begun why visited =
        same_end {T = List ℕ} {U = Unit} (Ok text) (Ok done) (HasText (Ok text)) (Writes (Ok done) out out') refl (λ rest is. is)
        (λ line is. subst (λ (l : List ℕ). HasWritten l out out') is written) visited
    said text (Err stop) out out' written begun why visited =
        subst (λ (s : Stop). HasVisited {T = Unit} choose files inputs close (Err s) (Writes (Err s) out out') ahead' was) (sym why)
        (same_end {T = List ℕ} {U = Unit} (Ok text) (Err stops.Output) (HasText (Ok text)) (Writes (Err stops.Output) out out') refl
        (λ rest is. is)
        (λ line is. subst (λ (l : List ℕ). HasBegun l out out') is begun) visited)

    pub unsaid : (stop : Stop) (out : Option (List ℕ)) → is_output stop ≡ false → Part stop →
        HasVisited {T = Unit} choose files inputs close (Err stop) (Writes (Err stop) out out) ahead' was
    unsaid stop out silent visited =
        same_end {T = List ℕ} {U = Unit} (Err stop) (Err stop) (HasText (Err stop)) (Writes (Err stop) out out) refl (λ rest is. is)
        (λ line is. subst (λ (b : Bool). WritesAt b line out out) (sym silent) refl) visited

-- what was given stays given when the lines are written, or are not
pub said_behind : {D : Type 0} (g : Ghosts D) {M : Type 0} (fits : NamedItems → Type 0) (run : ℕ) (holds : Chooser → List TimedCommand → M →
    Type 0) (choose : Chooser) (h : List TimedCommand) (base : ℕ) (store : Store M) (first last : D) (result : Result Unit Stop)
    (may must : List TimedCommand → Type 0) → IfErr result (λ stop. stop ≡ stops.Output) →
    ((orders : List TimedCommand) → may orders → must orders) →
    IsLeft g fits holds (outset choose h base (length h) run first) may store last →
    Ends (loses_in result) g fits holds (outset choose h base (length h) run first) must store last
said_behind g fits run holds choose h base store first last (Ok done) may must why so left =
    left_weaker g fits run holds choose h base store first last may must so left
said_behind g fits run holds choose h base store first last (Err stop) may must why so left =
    ends_safe g fits run holds choose h base store first last (loses stop) must (ap loses why)
    (left_weaker g fits run holds choose h base store first last may must so left)
