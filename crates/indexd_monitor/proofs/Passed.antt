-- What a pass has done, in the words of the run.
use Rattle.std.proofs.Common.{◌≡◌, ◌∙◌, ℕ, Bool, true, false, List, [], ◌∷◌, ◌++◌, length, drop, take, map, refl, sym}
use Rattle.std.proofs.Common.{subst, ℤ}
use Rattle.std.proofs.lemmas.Bool.{false≢true}
use Rattle.std.proofs.lemmas.List.{append-nil}
use Rattle.std.specs.Prelude.{Option, Some, None, IfSome, Result, Ok, Err}
use Rattle.std.specs.List.{AllByRecursion}
use Rattle.ix_base.specs.Clocks.{Moments}
use Rattle.ix_fs.specs.declared.trees.TreeFault.{TreeFault}
use Rattle.ix_fs.specs.declared.trees.TreeFile.{TreeFile}
use Rattle.ix_disk.specs.declared.disk.Disk.{Ghosts}
use Rattle.ix_manifest.specs.Book.{NamedItems}
use Rattle.ix_commit.specs.declared.fault.CommitFault.TheVariants as commits
use Rattle.ix_monitor.specs.declared.inputs.Input.{Input}
use Rattle.ix_monitor.specs.declared.watched.Watched.{Watched}
use Rattle.ix_files.specs.Sought.{sought, IsFileOf}
use Rattle.ix_model.specs.Given.{Chooser}
use Rattle.ix_model.specs.Step.{state_after}
use Rattle.ix_model.specs.declared.answers.Refusal.{Refusal}
use Rattle.ix_model.specs.declared.answers.Refusal.TheVariants as refusals
use Rattle.ix_model.specs.declared.commands.Command.TheVariants.{Tick}
use Rattle.ix_model.specs.declared.commands.TimedCommand.{TimedCommand}
use Rattle.ix_run.proofs.Stored.{all_taken}
use Rattle.ix_run.specs.Giving.{given_all, HasKeptAll}
use Rattle.ix_run.specs.Running.{outset}
use Rattle.ix_run.specs.Storing.{IsNextRefused}
use Rattle.ix_run.specs.declared.giving.GiveFault.TheVariants.{Refused, Commit}
use Rattle.ix_store.specs.Counting.{numbers}
use Rattle.ix_store.specs.Holding.{Represents}
use Rattle.ix_store.specs.declared.store.Store.{Store}
use Rattle.ix_watch.specs.Passes.{file_of, lines, AreVisited}
use Rattle.ix_pass.specs.Giving.{kind, change}
use Rattle.ix_pass.specs.Passing.{VisitsAll, IsPass}
use Rattle.ix_pass.specs.Visiting as passing
use Rattle.ix_pass.specs.declared.fault.PassFault.{PassFault}
use Rattle.ix_pass.specs.declared.fault.PassFault.TheVariants as passes
use Rattle.indexd_run.proofs.Joining.{run_by}
use Rattle.indexd_run.proofs.Leaving.{left_all}
use Rattle.indexd_run.proofs.Tasks.{ends_safe, ends_weaker, none_given}
use Rattle.indexd_run.specs.Ends.{IsLeft, Ends}
use Rattle.indexd_run.specs.Opened.{Past, Doing, WhenOpen, HasOpened, HasRun, course, giving}
use Rattle.indexd_run.specs.Stops.{of_refusal, loses, loses_in}
use Rattle.indexd_run.specs.declared.stop.Stop.{Stop}
use Rattle.indexd_run.specs.declared.stop.Stop.TheVariants as stops
use Rattle.ix_model.specs.declared.commands.Config.{Config}
use Rattle.indexd_monitor.proofs.Stopping.{keeps_tree, quiet_pass}
use Rattle.indexd_monitor.proofs.Turns.{next_in_turn}
use Rattle.indexd_monitor.proofs.Visited.{none_visited}
use Rattle.indexd_monitor.specs.Monitored.{of_tree, of_pass, is_whole, IsWhy, IsEnd, Visits, HasText, HasVisited, HasMonitored, AndTaken}

pub all_front : {X : Type 0} (P : X → Type 0) (a b : List X) → AllByRecursion P (a ++ b) → AllByRecursion P a
all_front P [] b all = tt
all_front P (x ∷ a) b all = (all.0, all_front P a b all.1)

-- what holds of a file of the inputs holds of each
pub all_so : {X : Type 0} (P Q : X → Type 0) → ((x : X) → P x → Q x) → (xs : List X) → AllByRecursion P xs → AllByRecursion Q xs
all_so P Q so [] all = tt
all_so P Q so (x ∷ xs) all = (so x all.0, all_so P Q so xs all.1)

-- why the next command is not given
refused_so : (choose : Chooser) (base : ℕ) (h given rest : List TimedCommand) (refusal : Refusal) →
    IsNextRefused choose (numbers (drop base (given_all choose h given))) (state_after choose (given_all choose h given)) refusal rest →
    (of_refusal refusal ≡ stops.Inconsistent → ⊥) → IsWhy choose base h (of_refusal refusal) given rest
refused_so choose base h given rest refusals.Closed why sound = absurd (sound refl)
refused_so choose base h given rest refusals.NoChannel why sound = absurd (sound refl)
refused_so choose base h given rest refusals.ChannelOpen why sound = absurd (sound refl)
refused_so choose base h given rest refusals.UnknownIndex why sound = (refusals.UnknownIndex, refl, why)
refused_so choose base h given rest refusals.NoBucket why sound = (refusals.NoBucket, refl, why)
refused_so choose base h given rest refusals.NotArchived why sound = (refusals.NotArchived, refl, why)
refused_so choose base h given rest refusals.AlreadyThawed why sound = (refusals.AlreadyThawed, refl, why)
refused_so choose base h given rest refusals.TooManyChannels why sound = (refusals.TooManyChannels, refl, why)
refused_so choose base h given rest refusals.Full why sound = (refusals.Full, refl, why)
refused_so choose base h given rest refusals.NoMemory why sound = tt

module _ {D : Type 0} (d : Ghosts D) {M : Type 0} (is_chooser : Chooser → Type 0) (takes : TimedCommand → Type 0) (fits : NamedItems →
    Type 0) (holds : Chooser → List TimedCommand → M → Type 0)
    (choose : Chooser) (h : List TimedCommand) (base : ℕ) (files : Option (List TreeFile)) (inputs : List Input) (close : Bool)
    (watched : List Watched) (own : AllByRecursion (IsFileOf inputs) watched)
    (found : IfSome files (λ all. watched ≡ sought all inputs))
    (ahead ahead' : Option Moments) (old new : Store M) (before disk : D)
    (chooser : is_chooser choose) (taken : AllByRecursion takes h) (hold : Represents d fits holds choose h base (length h) old before)
  where
    abbrev Passes : Result (List ℕ) PassFault → Type 0
    Passes result = VisitsAll result watched ahead ahead'
        (IsPass d (kind is_chooser takes fits holds) files close result (change old before new disk))

    -- the visits of a pass, where these of its commands were given
    visited : (result : Result (List ℕ) PassFault) (ending : Result (List ℕ) Stop) (is : Passes result) (given rest : List TimedCommand) →
        is_whole ending ≡ passing.is_whole result → is.orders ≡ given ++ rest → (is_whole ending ≡ true → rest ≡ []) →
        IsEnd choose base h ending given rest → HasText ending (lines is.visits) →
        HasVisited choose files inputs close ending (HasText ending) ahead' (giving base ahead h given)
    visited result ending is given rest same parts all why text = record {
      pass = record {
        visits = is.visits;
        tried = is.orders;
        rest = rest;
        parts = parts;
        all = all;
        asked = is.asked;
        are = subst (λ (w : Bool). AreVisited choose files close w h is.visits is.orders) (sym same)
            (is.done.are choose h base (length h) chooser taken hold);
      };
      own = all_front (IsFileOf inputs) (map file_of is.visits) is.rest (subst (AllByRecursion (IsFileOf inputs)) is.files_are own);
      sought = sought_in files found;
      why = why;
      text = text;
    }
      where
        sought_in : (files : Option (List TreeFile)) → IfSome files (λ all. watched ≡ sought all inputs) →
            IfSome files (λ all. Visits (is_whole ending) (sought all inputs) (map file_of is.visits))
        sought_in None found = tt
        sought_in (Some all) found = record {
          rest = is.rest;
          all_are = sym found ∙ is.files_are;
          every = λ e. is.whole (sym same ∙ e);
        }

    abbrev pub May : Result (List ℕ) Stop → List TimedCommand → Type 0
    May ending = AndTaken takes (HasVisited choose files inputs close ending (HasText ending) ahead') base ahead h

    -- a pass that is done
    whole_pass : (text : List ℕ) → Passes (Ok text) →
        IsLeft d fits holds (outset choose h base (length h) old.run before) (May (Ok text)) new disk
    whole_pass text is =
        let kept : HasKeptAll d fits holds (outset choose h base (length h) old.run before) is.orders new disk =
        is.done.kept choose h base (length h) chooser taken hold in
        left_all d fits holds (outset choose h base (length h) old.run before) (May (Ok text)) is.orders new disk
        (visited (Ok text) (Ok text) is is.orders [] refl (sym (append-nil is.orders)) (λ e. refl) kept.allowed is.done.text, is.done.taken)
        kept

    by_loss : (lost : Bool) (may : List TimedCommand → Type 0) →
        IsLeft d fits holds (outset choose h base (length h) old.run before) may new disk →
        Ends lost d fits holds (outset choose h base (length h) old.run before) may new disk
    by_loss true may left = record { orders = left.orders; allowed = left.allowed; stood = left.all.stood }
    by_loss false may left = left

    -- one that was stopped: these of its commands were given
    part_visited : (fault : PassFault) (is : Passes (Err fault)) (given rest : List TimedCommand) → is.orders ≡ given ++ rest →
        IsWhy choose base h (of_pass fault) given rest → May (Err (of_pass fault)) given
    part_visited fault is given rest parts why = (
      visited (Err fault) (Err (of_pass fault)) is given rest (quiet_pass fault) parts
          (λ e. absurd (false≢true (sym (quiet_pass fault) ∙ e))) why tt,
      all_front takes given rest (subst (AllByRecursion takes) parts is.done.taken),
    )

    stopped_so : (fault : PassFault) → Passes (Err fault) →
        Ends (loses (of_pass fault)) d fits holds (outset choose h base (length h) old.run before) (May (Err (of_pass fault))) new disk
    stopped_so (passes.Given (Refused refusal)) is =
        let halted = is.done.kept choose h base (length h) chooser taken hold in
        by_loss (loses (of_refusal refusal)) (May (Err (of_refusal refusal)))
        (left_all d fits holds (outset choose h base (length h) old.run before) (May (Err (of_refusal refusal))) halted.given new disk
        (part_visited (passes.Given (Refused refusal)) is halted.given halted.rest halted.parts
        (refused_so choose base h halted.given halted.rest refusal halted.halts.0
        (next_in_turn choose files close false (numbers (drop base (given_all choose h halted.given))) h is.visits is.orders
        halted.given halted.rest refusal (is.done.are choose h base (length h) chooser taken hold) halted.parts halted.halts.0)))
        halted.halts.1)
    stopped_so (passes.Given (Commit commits.Disk)) is =
        let halted = is.done.kept choose h base (length h) chooser taken hold in
        record {
          orders = halted.given;
          allowed = part_visited (passes.Given (Commit commits.Disk)) is halted.given halted.rest halted.parts tt;
          stood = halted.halts;
        }
    stopped_so (passes.Given (Commit (commits.Damaged file at))) is =
        let halted = is.done.kept choose h base (length h) chooser taken hold in
        record {
          orders = halted.given;
          allowed = part_visited (passes.Given (Commit (commits.Damaged file at))) is halted.given halted.rest halted.parts tt;
          stood = halted.halts;
        }
    stopped_so passes.Input is =
        left_all d fits holds (outset choose h base (length h) old.run before) (May (Err stops.Input)) is.orders new disk
        (part_visited passes.Input is is.orders [] (sym (append-nil is.orders)) refl)
        (is.done.kept choose h base (length h) chooser taken hold)
    stopped_so passes.Memory is =
        left_all d fits holds (outset choose h base (length h) old.run before) (May (Err stops.Memory)) is.orders new disk
        (part_visited passes.Memory is is.orders [] (sym (append-nil is.orders)) tt)
        (is.done.kept choose h base (length h) chooser taken hold)

    -- the same over a tree whose files are those of before
    abbrev pub PassesOver : Option (List TreeFile) → Result (List ℕ) PassFault → Type 0
    PassesOver all result = VisitsAll result watched ahead ahead'
        (IsPass d (kind is_chooser takes fits holds) all close result (change old before new disk))

    pub whole_over : (all : Option (List TreeFile)) → all ≡ files → (text : List ℕ) → PassesOver all (Ok text) →
        IsLeft d fits holds (outset choose h base (length h) old.run before) (May (Ok text)) new disk
    whole_over all same text is = whole_pass text (subst (λ (f : Option (List TreeFile)). PassesOver f (Ok text)) same is)

    pub stopped_over : (all : Option (List TreeFile)) → all ≡ files → (fault : PassFault) (stop : Stop) → stop ≡ of_pass fault →
        PassesOver all (Err fault) →
        Ends (loses stop) d fits holds (outset choose h base (length h) old.run before) (May (Err stop)) new disk
    stopped_over all same fault stop is pass = subst (λ (s : Stop).
        Ends (loses s) d fits holds (outset choose h base (length h) old.run before) (May (Err s)) new disk) (sym is)
        (stopped_so fault (subst (λ (f : Option (List TreeFile)). PassesOver f (Err fault)) same pass))

-- the files were not found: nothing is given
pub none_found : {D : Type 0} (g : Ghosts D) {M : Type 0} (takes : TimedCommand → Type 0) (fits : NamedItems → Type 0) (holds : Chooser →
    List TimedCommand → M → Type 0) (choose : Chooser) (h : List TimedCommand) (base : ℕ) (files : Option (List TreeFile))
    (inputs : List Input) (close : Bool) (ahead : Option Moments) (store : Store M) (disk : D) (fault : TreeFault) (stop : Stop) →
    stop ≡ of_tree fault → Represents g fits holds choose h base (length h) store disk →
    Ends (loses stop) g fits holds (outset choose h base (length h) store.run disk)
    (AndTaken takes (HasVisited {T = List ℕ} choose files inputs close (Err stop) (HasText (Err stop)) ahead) base ahead h) store disk
none_found g takes fits holds choose h base files inputs close ahead store disk fault stop is hold =
    subst (λ (s : Stop). Ends (loses s) g fits holds (outset choose h base (length h) store.run disk)
    (AndTaken takes (HasVisited {T = List ℕ} choose files inputs close (Err s) (HasText (Err s)) ahead) base ahead h) store disk) (sym is)
    (ends_safe g fits store.run holds choose h base store disk disk (loses (of_tree fault)) may (keeps_tree fault)
    (none_given g fits holds choose h base store disk may
    (none_visited choose files inputs close fault ahead base h, tt) hold))
  where
    may : List TimedCommand → Type 0
    may = AndTaken takes (HasVisited {T = List ℕ} choose files inputs close (Err (of_tree fault)) (HasText (Err (of_tree fault))) ahead)
        base ahead h

-- A run behind an open store, of commands that the store takes.
pub monitored_when : {D : Type 0} (g : Ghosts D) {M : Type 0} (takes : TimedCommand → Type 0) →
    ((moment : ℤ) → takes (record { command = Tick; moment = moment })) → (fits : NamedItems → Type 0) (holds : Chooser →
    List TimedCommand → M → Type 0) (past : Past) (config : Config) (mounted store : Store M) (ahead told : Option Moments)
    (first mid last : D) (opened : HasOpened g fits holds past (course config ahead told first mid) mounted)
    → AllByRecursion takes (given_all past.choose (take opened.count past.history) opened.configured) →
    (may : Doing) (lost : Bool) →
    Ends lost g fits holds (outset past.choose (given_all past.choose (take opened.count past.history) opened.configured) opened.count
    (length (given_all past.choose (take opened.count past.history) opened.configured)) mounted.run mid)
    (AndTaken takes may opened.count told (given_all past.choose (take opened.count past.history) opened.configured)) store last →
    HasRun lost g takes fits past (WhenOpen past.choose config ahead may) first last
monitored_when g takes ticks fits holds past config mounted store ahead told first mid last opened taken may lost ends =
    let now = given_all past.choose (take opened.count past.history) opened.configured in
    run_by g fits holds past config mounted ahead told first mid last opened takes store may lost
    (ends_weaker g fits mounted.run holds past.choose now opened.count store mid last lost (AndTaken takes may opened.count told now)
    (λ orders. may (giving opened.count told now orders) × AllByRecursion takes (given_all past.choose now orders))
    (λ orders was. (was.0, all_taken takes ticks past.choose now orders taken was.1)) ends)

-- a run that monitors files is not stopped by what stands on the disk
pub monitored_sound : {D : Type 0} (g : Ghosts D) {M : Type 0} (takes : TimedCommand → Type 0) (fits : NamedItems →
    Type 0) (holds : Chooser →
    List TimedCommand → M → Type 0) (choose : Chooser) (h : List TimedCommand) (base run : ℕ) (files : Option (List TreeFile))
    (inputs : List Input) (close : Bool) (ahead ahead' : Option Moments) (out out' : Option (List ℕ)) (store : Store M) (first last : D)
    (result : Result Unit Stop) → result ≡ Err stops.Inconsistent →
    Ends (loses_in result) g fits holds (outset choose h base (length h) run first)
    (AndTaken takes (HasMonitored choose files inputs close result ahead' out out') base ahead h) store last → ⊥
monitored_sound g takes fits holds choose h base run files inputs close ahead ahead' out out' store first last result is ends =
    let was : IsLeft g fits holds (outset choose h base (length h) run first)
    (AndTaken takes (HasMonitored choose files inputs close (Err stops.Inconsistent) ahead' out out') base ahead h) store last =
    subst (λ (r : Result Unit Stop). Ends (loses_in r) g fits holds (outset choose h base (length h) run first)
    (AndTaken takes (HasMonitored choose files inputs close r ahead' out out') base ahead h) store last) is ends in
    was.allowed.0.why
