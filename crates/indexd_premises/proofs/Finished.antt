-- A run that is done, over a disk on which nothing was written: what is said of every run from a
-- start is said of it. For `first_run`.
use Rattle.std.proofs.Common.{◌≡◌, ◌<◌, inl, inr, ℕ, true, List, [], sym, ap, ◌∙◌, subst, length, arith, refl}
use Rattle.std.specs.Prelude.{Bool, Option, false}
use Rattle.std.proofs.lemmas.List.{take_all}
use Rattle.ix_base.specs.Clocks.{Moments}
use Rattle.ix_base.specs.Told.{HasWritten}
use Rattle.ix_disk.specs.Image.{Image}
use Rattle.ix_disk.specs.declared.disk.Disk.{Ghosts}
use Rattle.ix_sessions.specs.Connections as connections
use Rattle.ix_sessions.specs.Connections.{Listened}
use Rattle.ix_sessions.specs.Feeding as feeding
use Rattle.ix_sessions.specs.declared.feed.Fed.{Fed}
use Rattle.ix_sessions.specs.declared.serve.Heard.{Heard}
use Rattle.ix_sessions.specs.declared.serve.Heard.TheVariants as heard
use Rattle.ix_commit.specs.declared.fault.CommitFault.TheVariants as commits
use Rattle.ix_state.specs.Configs.{IsChooser}
use Rattle.ix_state.specs.Taken.{IsTaken, AreGiven}
use Rattle.ix_model.specs.Given.{Chooser}
use Rattle.ix_model.specs.declared.commands.Config.{Config}
use Rattle.ix_model.specs.declared.commands.TimedCommand.{TimedCommand}
use Rattle.ix_replay.specs.Fits.{fits}
use Rattle.ix_run.specs.Giving.{given_all}
use Rattle.ix_run.proofs.Gone.{stands_from}
use Rattle.ix_serve.specs.Serving.{IsTold}
use Rattle.ix_store.specs.Written.{RecoversTo, RecoversToPrefix}
use Rattle.indexd_serve.specs.Ends.{FedBehind, HeardBehind, fed_of}
use Rattle.indexd_serve.specs.Serving.{exchange, HasServed, Requests, Connections}
use Rattle.indexd_serve.specs.Sides.{IsSound}
use Rattle.indexd_serve.specs.declared.end.End.{End}
use Rattle.indexd_serve.specs.declared.end.End.TheVariants as ends
use Rattle.indexd_serve.specs.declared.end.ServeEnd.{ServeEnd}
use Rattle.indexd_serve.specs.declared.end.ServeEnd.TheVariants as serving
use Rattle.indexd_run.specs.Opened.{Past, past_of, mounted_with, course, WhenOpen, HasRun}
use Rattle.indexd_run.specs.declared.stop.Stop.{Stop}
use Rattle.indexd_run.specs.declared.stop.Stop.TheVariants as stops
use Rattle.indexd_core.specs.Around.{Around}
use Rattle.indexd_core.specs.Feeds as feeds
use Rattle.indexd_core.specs.Feeds.{FeedComes, end_status}
use Rattle.indexd_core.specs.Locked.{IsLockedOut}
use Rattle.indexd_core.specs.Serves as serves
use Rattle.indexd_core.specs.Chain.{MayRun}
use Rattle.indexd_core.specs.Monitors.{Monitors}
use Rattle.indexd_core.specs.Serves.{ServeComes, EndsServing}
use Rattle.indexd_core.specs.Selftests.{Tests}
use Rattle.indexd_core.specs.Sides.{Side}
use Rattle.indexd_core.specs.Stored.{status_of, FromStart, Outcomes, Comes, done, stopped, WroteUnread, Whole, unread, locked_out, ran}
use Rattle.indexd_core.specs.declared.status.Status.{Status}
use Rattle.indexd_core.specs.declared.status.Status.TheVariants.{Done, Configuration, DiskFault, InUse}
use Rattle.indexd_premises.specs.Standing.{HasHistory, HasListed}

-- ---- statuses

not_done : (stop : Stop) → status_of stop ≡ Done → ⊥
not_done stops.Memory e = cc
not_done stops.Disk e = cc
not_done (stops.Damaged file at) e = cc
not_done stops.Inconsistent e = cc
not_done stops.NotFound e = cc
not_done stops.TooManyChannels e = cc
not_done stops.Full e = cc
not_done stops.Output e = cc
not_done stops.Input e = cc
not_done stops.Endless e = cc

-- nor is one that is not given the store
pub not_out : {D : Type 0} (d : Ghosts D) (disk disk' : D) (status : Status) → status ≡ Done → IsLockedOut status d disk disk' → ⊥
not_out d disk disk' status is (inl used) = let e : InUse ≡ Done = sym used.0 ∙ is in cc
not_out d disk disk' status is (inr failed) = let e : DiskFault ≡ Done = sym failed.0 ∙ is in cc

-- the store is open behind requests that end so
open_behind : (first : Fed) (end : End) → end_status end ≡ Done → FedBehind first (fed_of end) → feeding.is_open_end first ≡ true
open_behind first ends.Ended is (inl same) = ap feeding.is_open_end (sym same)
open_behind first ends.Ended is (inr other) = other.0
open_behind first (ends.Unreadable request) is b = absurd (cc)
open_behind first ends.Memory is b = absurd (cc)
open_behind first ends.Endless is b = absurd (cc)
open_behind first ends.Disk is b = absurd (cc)
open_behind first (ends.Damaged file at) is b = absurd (cc)
open_behind first ends.Input is b = absurd (cc)
open_behind first ends.Output is b = absurd (cc)

open_served : (first : Heard) → HeardBehind first serving.Done → connections.is_open_end first ≡ true
open_served heard.Done b = refl
open_served heard.Listener b = refl
open_served (heard.Broken commits.Disk) (inl e) = absurd (cc)
open_served (heard.Broken commits.Disk) (inr other) = other.0
open_served (heard.Broken (commits.Damaged file at)) (inl e) = absurd (cc)
open_served (heard.Broken (commits.Damaged file at)) (inr other) = other.0

served_whole : (status : Status) (requests : ℕ) (end : ServeEnd) (output output' : Side) → status ≡ Done →
    EndsServing status requests end output output' → end ≡ serving.Done
served_whole status requests serving.Done output output' is e = refl
served_whole status requests serving.Listener output output' is e = let s = e.0 in absurd (cc)
served_whole status requests serving.Memory output output' is e = let s = e.0 in absurd (cc)
served_whole status requests serving.Disk output output' is e = let s = e.0 in absurd (cc)
served_whole status requests (serving.Damaged file at) output output' is e = let s = e.0 in absurd (cc)

-- ---- images

-- an image that a run has written for a history stands for all of it
whole : (run : ℕ) (choose : Chooser) (history : List TimedCommand) (image : Image) → RecoversTo fits run choose history image →
    RecoversToPrefix fits run choose history (length history) image
whole run choose history image stands =
    stands_from fits run run choose history (length history) (length history) image (omega arith) (omega arith) (omega arith)
    (subst (λ (h : List TimedCommand). RecoversTo fits run choose h image) (sym (take_all (length history) history (omega arith))) stands)

-- ---- runs

module _ {D : Type 0} {d : Ghosts D} {disk : D} (choose : Chooser) (may : MayRun d (past_of choose [] 0 0) disk) where
  abbrev none : Past
  none = past_of choose [] 0 0

  -- what is said of every run from here is said of this one
  is_said : (comes : Past → Type 0) → FromStart d disk comes → comes none
  is_said comes from = from none may

  history_of : (now : List TimedCommand) (run : ℕ) (disk' : D) → 0 < run → AreGiven now →
      ((image : Image) → d.may_leave disk' image → RecoversToPrefix fits run choose now (length now) image) → IsTold d disk' →
      HasHistory d disk'
  history_of now run disk' begun given all told = record {
    choose = choose;
    history = now;
    run = run;
    begun = begun;
    may_run = record { chooser = may.chooser; given = given; begins = all; image = told.0; tells = told.1 };
  }

  of_run : (mays : List TimedCommand → List TimedCommand → List TimedCommand → Type 0) (disk' : D) → IsTold d disk' →
      HasRun false d IsTaken fits none mays disk disk' → HasHistory d disk'
  of_run mays disk' told was = history_of (given_all choose (mounted_with none was.count was.configured) was.orders) was.new_run disk'
      was.passes.later was.given was.lasts.since.now told

  module _ (status : Status) (config : Config) (ahead ahead' : Option Moments) where
    pub of_comes : (named : List ℕ) (to : Outcomes) (output' : Side) (disk' : D) → IsTold d disk' → status ≡ Done →
        Comes status d (course config ahead ahead' disk disk') named to output' → HasHistory d disk'
    of_comes named to output' disk' told is (done e from) =
        of_run (WhenOpen choose config ahead (to.whole choose)) disk' told
        (is_said (λ past. HasRun false d IsTaken fits past (WhenOpen past.choose config ahead (to.whole past.choose)) disk disk') from)
    of_comes named to output' disk' told is (stopped stop middle e from w s) = absurd (not_done stop (sym e ∙ is))

    pub of_feed : (input input' output output' : Side) (disk' : D) → IsTold d disk' → status ≡ Done →
        FeedComes status d (course config ahead ahead' disk disk') input input' output output' → HasHistory d disk'
    of_feed input input' output output' disk' told is (feeds.shut stop e from same said) = absurd (not_done stop (sym e ∙ is))
    of_feed input input' output output' disk' told is (feeds.served end middle e l m reads from said) =
        let was = is_said (λ past. HasServed d IsTaken fits past (course config ahead ahead' disk disk')
        (Requests d fits (fed_of end) (IsSound output.faults middle.faults)
        (exchange input.told input'.told output.told middle.told))) from in
        let requests = was.served in
        history_of was.now was.new_run disk' was.passes.later was.given
        (λ image left. whole was.new_run choose was.now image
        (requests.all (open_behind requests.first end (sym e ∙ is) requests.ends_behind) image left)) told

    pub of_serve : (requests : ℕ) (heard heard' : Listened) (output output' : Side) (disk' : D) → IsTold d disk' → status ≡ Done →
        ServeComes status d (course config ahead ahead' disk disk') requests heard heard' output output' → HasHistory d disk'
    of_serve requests heard heard' output output' disk' told is (serves.unbound e a h s said) = absurd (cc)
    of_serve requests heard heard' output output' disk' told is (serves.locked_out a h out said) =
        absurd (not_out d disk disk' status is out)
    of_serve requests heard heard' output output' disk' told is (serves.shut stop e from same said) =
        absurd (not_done stop (sym e ∙ is))
    of_serve requests heard heard' output output' disk' told is (serves.served end hears from wrote) =
        let was = is_said (λ past. HasServed d IsTaken fits past (course config ahead ahead' disk disk')
        (Connections d fits requests end heard heard')) from in
        let visits = was.served in
        let behind : HeardBehind visits.first serving.Done =
        subst (HeardBehind visits.first) (served_whole status requests end output output' is wrote) visits.ends_behind in
        history_of was.now was.new_run disk' was.passes.later was.given
        (λ image left. whole was.new_run choose was.now image (visits.all (open_served visits.first behind) image left)) told

-- one that is done has read the settings
pub of_whole : (status : Status) {D : Type 0} (from to : Around D) (still out : Type 0) (comes : Config → Type 0) (said : Type 0) →
    status ≡ Done → (out → ⊥) → ((config : Config) → comes config → said) → Whole status from to still out comes → said
of_whole status from to still out comes said is never f (unread s wrote) =
    absurd (subst (λ (s : Status). WroteUnread s from.files from.failed to.failed from.output to.output) is wrote)
of_whole status from to still out comes said is never f (locked_out config given o s) = absurd (never o)
of_whole status from to still out comes said is never f (ran config given c) = f config c

-- one that monitors files and is done has a history
pub of_monitored : {D : Type 0} (d : Ghosts D) (choose : Chooser) (status : Status) (close : Bool) (from to : Around D) →
    MayRun d (past_of choose [] 0 0) from.disk → IsTold d to.disk → status ≡ Done → Monitors status close d from to → HasHistory d to.disk
of_monitored d choose status close from to may told is (inl misjudged) =
    let e : Configuration ≡ Done = sym misjudged.status_is ∙ is in cc
of_monitored d choose status close from to may told is (inr run) =
    of_whole status from to _ _ _ _ is (λ out. not_out d from.disk to.disk status is out.1)
    (λ config come. of_comes choose may status config from.ahead to.ahead _ _ _ _ told is come.2) run

-- one that is done has written its summary
of_tests : (seed count : ℕ) (status : Status) (output output' : Side) → status ≡ Done → Tests status seed count output output' →
    Tests Done seed count output output'
of_tests seed count status output output' is tests = subst (λ (s : Status). Tests s seed count output output') is tests

-- so it is for one chooser that there is
pub of_listed : (seed count : ℕ) (status : Status) (output output' : Side) (choose : Chooser) → IsChooser choose → status ≡ Done →
    Tests status seed count output output' → HasListed seed count output.told output'.told
of_listed seed count status output output' choose is_chooser is tests =
    let told = of_tests seed count status output output' is tests in
    record {
      choose = choose;
      config = told.1.config;
      in_force = told.1.in_force;
      blocks = told.1.blocks;
      cut = told.1.cut;
      written = subst (λ (text : List ℕ). HasWritten text output.told output'.told) (told.1.text_is choose is_chooser) told.2;
    }
