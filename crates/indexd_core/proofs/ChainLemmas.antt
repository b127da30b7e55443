-- What a run leaves, the next one begins with.
use Rattle.std.proofs.Common.{◌≡◌, ◌≤◌, ◌<◌, ◌⊎◌, ◌∙◌, ℕ, Bool, true, false, List, [], ◌∷◌, length, take, refl, sym, ap, subst, inl, inr}
use Rattle.std.proofs.Common.{⊎_elim, Some, arith}
use Rattle.std.proofs.lemmas.Bool.{true≢false}
use Rattle.std.proofs.lemmas.List.{take-take}
use Rattle.ix_disk.proofs.Runs.{always_begins, always_still}
use Rattle.ix_disk.specs.Image.{Image}
use Rattle.ix_disk.specs.Moments.{Always}
use Rattle.ix_disk.specs.declared.disk.Disk.{Ghosts}
use Rattle.ix_state.specs.Configs.{IsChooser}
use Rattle.ix_state.specs.Taken.{IsTaken, AreGiven}
use Rattle.ix_model.specs.Given.{Chooser}
use Rattle.ix_model.specs.declared.commands.Config.{Config}
use Rattle.ix_model.specs.declared.commands.TimedCommand.{TimedCommand}
use Rattle.ix_replay.specs.Fits.{fits}
use Rattle.ix_run.proofs.Gone.{stands_from}
use Rattle.ix_run.specs.Giving.{given_all}
use Rattle.ix_serve.specs.Prefixes.{StandsIn}
use Rattle.ix_store.specs.Written.{RecoversTo, RecoversToPrefix}
use Rattle.ix_store.proofs.Counted.{take_whole}
use Rattle.ix_store.proofs.Lawful.{later_run}
use Rattle.ix_sessions.proofs.Known.{lasts}
use Rattle.ix_sessions.specs.Connections.{Listened}
use Rattle.ix_sessions.specs.Feeding.{AreSafe, Has, Lasts, Start, Turn, disk_after, history_after, known}
use Rattle.indexd_serve.specs.Serving.{Serving, HasServed}
use Rattle.indexd_run.specs.Opened.{Doing, HasRun, HasShut, HasStopped, IsNewRun, Passes, Past, past_of, Course, StandsFor, mounted_with}
use Rattle.indexd_run.specs.Stops.{loses}
use Rattle.indexd_run.specs.declared.stop.Stop.{Stop}
use Rattle.indexd_run.specs.declared.stop.Stop.TheVariants as stops
use Rattle.indexd_run.specs.declared.task.Task.{Task}
use Rattle.indexd_core.specs.Chain.{MayRun, Leaves, unmounted, mounted, IsLeftOf, IsStopOf, MayGoOn, GoesOnBehindEach, KeepsKnown}
use Rattle.indexd_core.specs.Chain.{may_lose, KeepsAll, EndsKept}
use Rattle.indexd_core.specs.Feeds.{Feeds, FeedComes}
use Rattle.indexd_core.specs.Feeds as feeds
use Rattle.indexd_core.specs.Locked.{IsLeftAlone, IsLockedOut}
use Rattle.indexd_core.specs.Prepared.{Stated}
use Rattle.indexd_core.specs.Serves as serves
use Rattle.indexd_core.specs.Serves.{Serves, ServeComes}
use Rattle.indexd_core.specs.Sides.{Side}
use Rattle.indexd_core.specs.Stored as stored
use Rattle.indexd_core.specs.Stored.{Comes, Whole, Tasked, Stored, Outcomes, WroteUnread, status_of}
use Rattle.indexd_core.specs.declared.status.Status.{Status}
use Rattle.indexd_core.specs.declared.status.Status.TheVariants.{Done, DiskFault, InUse}
use Rattle.indexd_core.proofs.LockedLemmas.{out_alone}
use Rattle.indexd_core.specs.Around.{Around, course_of}

module _ {D : Type 0} (d : Ghosts D) (past : Past) (before disk : D) where
  of_run : (lost : Bool) (may : List TimedCommand → List TimedCommand → List TimedCommand → Type 0) →
      HasRun lost d IsTaken fits past may before disk → Leaves d past before disk
  of_run lost may was = mounted was.new_run was.count (given_all past.choose (mounted_with past was.count was.configured) was.orders)
      was.least
      was.given was.passes

  -- no image of the disk has changed
  of_alone : MayRun d past before → IsLeftAlone d before disk → Leaves d past before disk
  of_alone may alone = unmounted (always_still d before disk (StandsFor fits past) alone.images may.begins)

  -- the disk was not given
  of_out : (status : Status) → MayRun d past before → IsLockedOut status d before disk → Leaves d past before disk
  of_out status may out = of_alone may (out_alone d before disk status out)

  -- nothing was asked of the disk
  pub of_same : MayRun d past before → disk ≡ before → Leaves d past before disk
  of_same may same = unmounted (subst (λ (x : D). Always d before x (StandsFor fits past)) (sym same)
      (always_begins d before (StandsFor fits past) may.begins))

module _ {D : Type 0} (d : Ghosts D) (past : Past) (run : Course D) where
  abbrev Left : Type 0
  Left = Leaves d past run.before run.disk

  of_shut : (stop : Stop) → HasShut stop d IsTaken fits past run → Left
  of_shut stop (inl not) = unmounted not.stood
  of_shut stop (inr was) = of_run d past run.before run.disk _ _ was

  of_stopped : (stop : Stop) (untouched : Type 0) (may : Doing) → HasStopped stop d IsTaken fits past run untouched may → Left
  of_stopped stop untouched may (inl shut) = of_shut stop shut.0
  of_stopped stop untouched may (inr was) = of_run d past run.before run.disk _ _ was

  of_served : (serves : Serving D) → HasServed d IsTaken fits past run serves → Left
  of_served serves was = mounted was.new_run was.count was.now was.least was.given was.passes

  pub of_comes : {status : Status} {named : List ℕ} {to : Outcomes} {output' : Side} → MayRun d past run.before →
      Comes status d run named to output' → Left
  of_comes may (stored.done is from) = of_run d past run.before run.disk _ _ (from past may)
  of_comes may (stored.stopped stop middle is from wrote line) = of_stopped stop _ _ (from past may)

  of_feed : {status : Status} {input input' output output' : Side} → MayRun d past run.before →
      FeedComes status d run input input' output output' → Left
  of_feed may (feeds.shut stop is from same line) = of_shut stop (from past may)
  of_feed may (feeds.served end middle is later after reads from line) = of_served _ (from past may)

  of_serve : {status : Status} {requests : ℕ} {heard heard' : Listened} {output output' : Side} → MayRun d past run.before →
      ServeComes status d run requests heard heard' output output' → Left
  of_serve may (serves.unbound is clock same alone line) = of_same d past run.before run.disk may alone
  of_serve {status = status} may (serves.locked_out clock same out said) = of_out d past run.before run.disk status may out
  of_serve may (serves.shut stop is from same line) = of_shut stop (from past may)
  of_serve may (serves.served end reads from line) = of_served _ (from past may)

module _ {D : Type 0} (d : Ghosts D) (past : Past) (from to : Around D) (may : MayRun d past from.disk) where
  pub of_whole : {status : Status} {still out : Type 0} {comes : Config → Type 0} → (still → to.disk ≡ from.disk) →
      (out → Leaves d past from.disk to.disk) → ((config : Config) → comes config → Leaves d past from.disk to.disk) →
      Whole status from to still out comes → Leaves d past from.disk to.disk
  of_whole alone refused so (stored.unread still wrote) = of_same d past from.disk to.disk may (alone still)
  of_whole alone refused so (stored.locked_out config is out said) = refused out
  of_whole alone refused so (stored.ran config is comes) = so config comes

  -- the disk was not given
  pub not_given : (status : Status) → IsLockedOut status d from.disk to.disk → Leaves d past from.disk to.disk
  not_given status out = of_out d past from.disk to.disk status may out

  pub feeds_leave : (status : Status) → Feeds status d from to → Leaves d past from.disk to.disk
  feeds_leave status comes = of_whole (λ still. still.2) (λ out. not_given status out.2)
      (λ config so. of_feed d past (course_of config from to) may so) comes

  pub serves_leave : (status : Status) (requests : ℕ) → Serves status requests d from to → Leaves d past from.disk to.disk
  serves_leave status requests comes = of_whole (λ still. still.2) (λ out. absurd out)
      (λ config so. of_serve d past (course_of config from to) may so) comes

  pub task_leaves : (status : Status) (task : Task) → Tasked status task d from to → Leaves d past from.disk to.disk
  task_leaves status task comes = of_whole (λ still. still.1) (λ out. not_given status out.1)
      (λ config so. of_comes d past (course_of config from to) may so) comes

  pub stored_leaves : (status : Status) (stated : Stated) → Stored status stated d from to → Leaves d past from.disk to.disk
  stored_leaves status stated comes = of_whole (λ still. still.2) (λ out. not_given status out.2)
      (λ config so. of_comes d past (course_of config from to) may so.0) comes

-- the exit of a run is a stop
pub exits : {D : Type 0} (d : Ghosts D) → ((disk : D) (t : ℕ) (image : Image) → t ≤ d.moment disk → d.may_leave disk image →
    d.left_since disk t image) →
    (past : Past) (before disk : D) (leaves : Leaves d past before disk) → IsStopOf d past before disk leaves d disk
exits d counts past before disk (unmounted stood) = λ image may. counts disk (d.moment before) image stood.later may
exits d counts past before disk (mounted new_run count now least given passes) =
    inr (λ image may. counts disk (d.moment passes.mounted) image passes.from_on.later may)

module _ {D E : Type 0} (d : Ghosts D) (e : Ghosts E) (only_now : (disk : D) (image : Image) → d.left_since disk (d.moment disk) image →
    d.may_leave disk image) where
  -- each image at each moment since a disk whose images have this
  each : (old new : D) (P : Image → Type 0) → ((image : Image) → d.may_leave old image → P image) → Always d old new P → (later : E) →
      IsLeftOf d old new e later → (image : Image) → e.may_leave later image → P image
  each old new P at always later left image may = ⊎_elim (λ was. at image (only_now old image was)) (λ is. is)
      (always.since (d.moment old) image (omega arith) (left image may))

module _ {D E : Type 0} (d : Ghosts D) (e : Ghosts E) (only_now : (disk : D) (image : Image) → d.left_since disk (d.moment disk) image →
    d.may_leave disk image) (past : Past) (before disk : D) where
  -- what was there at the start is there still
  as_before : MayRun d past before → (later : E) (image : Image) → e.seen later ≡ Some image →
      ((other : Image) → e.may_leave later other → StandsFor fits past other) → MayGoOn e past later
  as_before may later image tells begins = record {
    next = past.history;
    n = past.least;
    least_run = past.run;
    least = omega arith;
    no_earlier = omega arith;
    first = refl;
    may_run = record { chooser = may.chooser; given = may.given; begins = begins; image = image; tells = tells };
  }

  -- what was mounted and accepted since is there behind a stop from the mount on
  pub from_mount : MayRun d past before → (now : List TimedCommand) (new_run count : ℕ) → AreGiven now →
      (passes : Passes d fits past now new_run count before disk) →
      (later : E) (image : Image) → e.seen later ≡ Some image → IsLeftOf d passes.mounted disk e later →
      MayRun e (past_of past.choose now new_run count) later
  from_mount may now new_run count given passes later image tells stop = record {
    chooser = may.chooser;
    given = given;
    begins = each d e only_now passes.mounted disk (RecoversToPrefix fits new_run past.choose now count) passes.at_mount passes.from_on
        later stop;
    image = image;
    tells = tells;
  }

  -- all that was given is there behind a stop from the last commit on
  pub from_commit : MayRun d past before → (keeps : KeepsAll d past before disk) → (later : E) (image : Image) →
      e.seen later ≡ Some image → IsLeftOf d keeps.committed disk e later →
      MayRun e (past_of past.choose keeps.now keeps.new_run (length keeps.now)) later
  from_commit may keeps later image tells stop = record {
    chooser = may.chooser;
    given = keeps.given;
    begins = each d e only_now keeps.committed disk (RecoversToPrefix fits keeps.new_run past.choose keeps.now (length keeps.now))
        keeps.lasts.at_first keeps.lasts.since later stop;
    image = image;
    tells = tells;
  }

  pub goes_on : MayRun d past before → (leaves : Leaves d past before disk) → (later : E) (image : Image) →
      e.seen later ≡ Some image → IsStopOf d past before disk leaves e later → MayGoOn e past later
  goes_on may (unmounted stood) later image tells stop =
      as_before may later image tells (each d e only_now before disk (StandsFor fits past) may.begins stood later stop)
  goes_on may (mounted new_run count now least given passes) later image tells (inl stop) =
      as_before may later image tells (each d e only_now before passes.mounted (StandsFor fits past) may.begins passes.up_to later stop)
  goes_on may (mounted new_run count now least given passes) later image tells (inr stop) = record {
    next = now;
    n = count;
    least_run = new_run;
    least = least;
    no_earlier = omega (arith, passes.later);
    first = sym (take-take past.least count now least)
        ∙ (ap (take past.least) passes.first ∙ take-take past.least count past.history least);
    may_run = from_mount may now new_run count given passes later image tells stop;
  }

-- ---- what a task or an input has committed

not_done : (stop : Stop) → status_of stop ≡ Done → ⊥
not_done stops.Memory e = cc
not_done stops.Disk e = cc
not_done (stops.Damaged file at) e = cc
not_done stops.Inconsistent e = cc
not_done stops.NotFound e = cc
not_done stops.TooManyChannels e = cc
not_done stops.Full e = cc
not_done stops.Output e = cc
not_done stops.Input e = cc
not_done stops.Endless e = cc

lost_not : (stop : Stop) → may_lose (status_of stop) ≡ false → loses stop ≡ false
lost_not stops.Memory is = refl
lost_not stops.Disk is = is
lost_not (stops.Damaged file at) is = is
lost_not stops.Inconsistent is = refl
lost_not stops.NotFound is = refl
lost_not stops.TooManyChannels is = refl
lost_not stops.Full is = refl
lost_not stops.Output is = refl
lost_not stops.Input is = refl
lost_not stops.Endless is = refl

module _ {D : Type 0} (d : Ghosts D) (past : Past) (run : Course D) where
  kept_of : (lost : Bool) (may : List TimedCommand → List TimedCommand → List TimedCommand → Type 0) → lost ≡ false →
      HasRun lost d IsTaken fits past may run.before run.disk → KeepsAll d past run.before run.disk
  kept_of true may is was = absurd (true≢false is)
  kept_of false may is was = record {
    new_run = was.new_run;
    count = was.count;
    now = given_all past.choose (mounted_with past was.count was.configured) was.orders;
    given = was.given;
    passes = was.passes;
    committed = was.committed;
    lasts = was.lasts;
  }

  abbrev Kept : Status → Type 0
  Kept status = EndsKept status d past run.before run.disk

  kept_shut : (status : Status) (stop : Stop) → status ≡ status_of stop → loses stop ≡ false → HasShut stop d IsTaken fits past run →
      Kept status
  kept_shut status stop is kept (inl none) = inr (λ e. not_done stop (sym is ∙ e), none.stood)
  kept_shut status stop is kept (inr was) = inl (kept_of (loses stop) _ kept was)

  kept_stopped : (status : Status) (stop : Stop) (untouched : Type 0) (may : Doing) → status ≡ status_of stop → loses stop ≡ false →
      HasStopped stop d IsTaken fits past run untouched may → Kept status
  kept_stopped status stop untouched may is kept (inl shut) = kept_shut status stop is kept shut.0
  kept_stopped status stop untouched may is kept (inr was) = inl (kept_of (loses stop) _ kept was)

  pub kept_comes : {status : Status} {named : List ℕ} {to : Outcomes} {output' : Side} → MayRun d past run.before →
      may_lose status ≡ false → Comes status d run named to output' → Kept status
  kept_comes may kept (stored.done is from) = inl (kept_of false _ refl (from past may))
  kept_comes {status = status} may kept (stored.stopped stop middle is from wrote line) =
      kept_stopped status stop _ _ is (lost_not stop (ap may_lose (sym is) ∙ kept)) (from past may)

module _ {D : Type 0} (d : Ghosts D) (past : Past) (from to : Around D) (may : MayRun d past from.disk) where
  pub kept_same : (status : Status) → (status ≡ Done → ⊥) → to.disk ≡ from.disk → EndsKept status d past from.disk to.disk
  kept_same status not same = inr (
    not,
    subst (λ (x : D). Always d from.disk x (StandsFor fits past)) (sym same)
        (always_begins d from.disk (StandsFor fits past) may.begins),
  )

  kept_out : (status : Status) → IsLockedOut status d from.disk to.disk → EndsKept status d past from.disk to.disk
  kept_out status out = inr (
    out_not status out,
    always_still d from.disk to.disk (StandsFor fits past) (out_alone d from.disk to.disk status out).images may.begins,
  ) where
    out_not : (status : Status) → IsLockedOut status d from.disk to.disk → status ≡ Done → ⊥
    out_not status (inl used) is = let e : InUse ≡ Done = sym used.0 ∙ is in cc
    out_not status (inr failed) is = let e : DiskFault ≡ Done = sym failed.0 ∙ is in cc

  unread_not : (status : Status) → WroteUnread status from.files from.failed to.failed from.output to.output → status ≡ Done → ⊥
  unread_not status wrote is =
      subst (λ (s : Status). WroteUnread s from.files from.failed to.failed from.output to.output) is wrote

  pub kept_whole : {status : Status} {still out : Type 0} {comes : Config → Type 0} → (still → to.disk ≡ from.disk) →
      (out → IsLockedOut status d from.disk to.disk) → ((config : Config) → comes config → EndsKept status d past from.disk to.disk) →
      Whole status from to still out comes → EndsKept status d past from.disk to.disk
  kept_whole {status = status} alone refused so (stored.unread still wrote) = kept_same status (unread_not status wrote) (alone still)
  kept_whole {status = status} alone refused so (stored.locked_out config is out said) = kept_out status (refused out)
  kept_whole alone refused so (stored.ran config is comes) = so config comes

  pub task_keeps : (status : Status) (task : Task) → may_lose status ≡ false → Tasked status task d from to →
      EndsKept status d past from.disk to.disk
  task_keeps status task kept comes = kept_whole (λ still. still.1) (λ out. out.1)
      (λ config so. kept_comes d past (course_of config from to) may kept so) comes

  pub stored_keeps : (status : Status) (stated : Stated) → may_lose status ≡ false → Stored status stated d from to →
      EndsKept status d past from.disk to.disk
  stored_keeps status stated kept comes = kept_whole (λ still. still.2) (λ out. out.2)
      (λ config so. kept_comes d past (course_of config from to) may kept so.0) comes

-- ---- what was known as committed

-- what stands in a run for a prefix of a history may be mounted
recovers : (run : ℕ) (choose : Chooser) (now : List TimedCommand) (n : ℕ) (image : Image) → StandsIn fits run choose now n image →
    RecoversToPrefix fits run choose now n image
recovers run choose now n image is =
    stands_from fits run run choose now n is.count image (omega arith) is.least is.most is.stands

recovers_all : (run : ℕ) (choose : Chooser) (now : List TimedCommand) (image : Image) → RecoversTo fits run choose now image →
    RecoversToPrefix fits run choose now (length now) image
recovers_all run choose now image is = stands_from fits run run choose now (length now) (length now) image (omega arith) (omega arith)
    (omega arith) (subst (λ (l : List TimedCommand). RecoversTo fits run choose l image) (sym (take_whole now)) is)

module _ {D E : Type 0} (d : Ghosts D) (e : Ghosts E) (only_now : (disk : D) (image : Image) → d.left_since disk (d.moment disk) image →
    d.may_leave disk image) (s : Start D) (now : List TimedCommand) (disk : D) (later : E) (image : Image) (chooser : IsChooser s.choose)
    (given : AreGiven now) (tells : e.seen later ≡ Some image) where
  may_run : (n : ℕ) → ((other : Image) → e.may_leave later other → RecoversToPrefix fits s.run s.choose now n other) →
      MayRun e (past_of s.choose now s.run n) later
  may_run n begins = record { chooser = chooser; given = given; begins = begins; image = image; tells = tells }

  behind_each : (turns : List (Turn D)) → Lasts d fits s now disk turns → GoesOnBehindEach d e s now disk later turns
  behind_each [] lasting = tt
  behind_each (turn ∷ earlier) lasting = (
    λ stop. may_run (known s (turn ∷ earlier)) (λ other may. recovers s.run s.choose now (known s (turn ∷ earlier)) other
        (each d e only_now turn.disk disk (StandsIn fits s.run s.choose now (known s (turn ∷ earlier))) lasting.0.at_first lasting.0.since
        later stop other may)),
    behind_each earlier lasting.1,
  )

  pub keeps_known : (turns : List (Turn D)) (whole : Type 0) → now ≡ history_after s turns → AreSafe d fits s turns →
      Always d (disk_after s turns) disk (Has fits s turns (known s turns)) →
      (whole → (other : Image) → d.may_leave disk other → RecoversTo fits s.run s.choose now other) →
      KeepsKnown d e s turns whole now disk later
  keeps_known turns whole same safe behind all = record {
    behind_each = behind_each turns (subst (λ (l : List TimedCommand). Lasts d fits s l disk turns) (sym same)
        (lasts d fits s turns disk safe behind));
    exit = λ is stop. may_run (length now) (λ other may. recovers_all s.run s.choose now other
        (all is other (only_now disk other (stop other may))));
  }

-- a run that begins over some disk has a greater number
pub greater : {D : Type 0} (d : Ghosts D) → ((disk : D) (image : Image) → d.seen disk ≡ Some image → d.may_leave disk image) →
    (past : Past) (next : ℕ) (disk : D) → MayRun d past disk → IsNewRun d fits next disk → past.run < next
greater d stays past next disk may is =
    later_run fits past.run next past.choose past.history past.least may.image (may.begins may.image (stays disk may.image may.tells))
    (is may.image may.tells)
