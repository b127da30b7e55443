-- Requests served behind the opening of a store.
use Rattle.std.proofs.Common.{◌≡◌, ◌≤◌, ℕ, List, [], ◌∷◌, length, length-append, take, arith, refl, sym, subst, ◌∙◌, Option, inl}
use Rattle.std.proofs.lemmas.List.{take-append-le}
use Rattle.std.specs.List.{AllByRecursion}
use Rattle.ix_base.specs.Clocks.{Moments}
use Rattle.ix_manifest.specs.Book.{NamedItems}
use Rattle.ix_disk.proofs.Runs.{always_begins, always_on, always_weaker}
use Rattle.ix_disk.specs.Image.{Image}
use Rattle.ix_disk.specs.Moments.{Always}
use Rattle.ix_disk.specs.declared.disk.Disk.{Ghosts}
use Rattle.ix_sessions.proofs.Growing.{held_in, images_all, knows_more}
use Rattle.ix_sessions.specs.Feeding.{AreSafe, Has, Start, Turn, disk_after, history_after, known}
use Rattle.ix_sessions.specs.declared.feed.Fed.{Fed}
use Rattle.ix_model.specs.Given.{Chooser}
use Rattle.ix_model.specs.declared.commands.Config.{Config}
use Rattle.ix_model.specs.declared.commands.TimedCommand.{TimedCommand}
use Rattle.ix_run.proofs.Gone.{longer, stands_from}
use Rattle.ix_store.specs.Written.{RecoversToPrefix}
use Rattle.ix_store.specs.declared.fault.MountFault.TheVariants as mounts
use Rattle.ix_store.specs.declared.store.Store.{Store}
use Rattle.ix_serve.specs.Serving.{IsTold}
use Rattle.indexd_run.specs.Opened.{Begins, HasOpened, HasShut, Passes, Past, Course, course, StandsFor, mounted_with}
use Rattle.indexd_run.specs.declared.stop.Stop.TheVariants as stops
use Rattle.indexd_serve.specs.Serving.{Serving, Requests, HasServed, begun_with, Session, session, Exchange}

-- where nothing was mounted for want of memory, all stands as it did
pub unmounted : {D : Type 0} (g : Ghosts D) (takes : TimedCommand → Type 0) (fits : NamedItems →
    Type 0) (past : Past) (config : Config) (ahead : Option Moments) (disk : D) → Begins g fits past disk →
    HasShut stops.Memory g takes fits past (course config ahead ahead disk disk)
unmounted g takes fits past config ahead disk begins = inl (record {
  fault = mounts.NoMemory;
  stop_is = refl;
  sound = λ e. cc;
  spent = λ e. cc;
  not_asked = refl;
  stood = always_begins g disk (StandsFor fits past) begins;
})

module _ {D : Type 0} (g : Ghosts D) {M : Type 0} (takes : TimedCommand → Type 0) (fits : NamedItems → Type 0) (holds : Chooser →
    List TimedCommand → M → Type 0) (past : Past) (config : Config) (store : Store M)
    (ahead told : Option Moments) (first mid : D) (opened : HasOpened g fits holds past (course config ahead told first mid) store) where
  abbrev choose : Chooser
  choose = past.choose

  abbrev begun : List TimedCommand
  begun = mounted_with past opened.count opened.configured

  abbrev from : Start D
  from = begun_with past opened.count opened.configured store.run mid

  at_least : opened.count ≤ length begun
  at_least = opened.hold.staged.from_base

  -- what stood before the requests stands for a prefix also of what comes of them
  before_turns : (turns : List (Turn D)) (image : Image) → RecoversToPrefix fits store.run choose begun opened.count image →
      RecoversToPrefix fits store.run choose (history_after from turns) opened.count image
  before_turns [] image is = is
  before_turns (turn ∷ earlier) image is =
      longer fits store.run choose (history_after from earlier) turn.answer.more opened.count opened.count image (omega arith)
      (before_turns earlier image is)

  within_turns : (turns : List (Turn D)) → opened.count ≤ length (history_after from turns)
  within_turns [] = opened.passes.within
  within_turns (turn ∷ earlier) = omega (arith, within_turns earlier, length-append (history_after from earlier) turn.answer.more)

  first_turns : (turns : List (Turn D)) → take opened.count (history_after from turns) ≡ take opened.count begun
  first_turns [] = refl
  first_turns (turn ∷ earlier) = take-append-le opened.count (history_after from earlier) turn.answer.more (within_turns earlier)
      ∙ first_turns earlier

  behind : (turns : List (Turn D)) (n : ℕ) → length begun ≤ n → (image : Image) → Has fits from turns n image →
      RecoversToPrefix fits store.run choose (history_after from turns) opened.count image
  behind turns n le image is = stands_from fits store.run store.run choose (history_after from turns) opened.count is.count image
      (omega arith) (omega (arith, at_least, le, is.least)) is.most is.stands

  passes_by : (turns : List (Turn D)) (last : D) → AreSafe g fits from turns →
      Always g (disk_after from turns) last (Has fits from turns (known from turns)) →
      Passes g fits past (history_after from turns) store.run opened.count first last
  passes_by turns last safe since =
      let P = RecoversToPrefix fits store.run choose (history_after from turns) opened.count in
      let now = disk_after from turns in
      let mounted = opened.passes.mounted in
      let served = images_all g fits from turns (held_in g fits holds choose begun opened.count (length begun) (length begun) store.run
      store mid refl (omega arith) opened.hold) safe in
      record {
        later = opened.passes.later;
        mounted = mounted;
        first = first_turns turns ∙ opened.passes.first;
        within = within_turns turns;
        up_to = opened.passes.up_to;
        at_mount = λ image may. before_turns turns image (opened.passes.at_mount image may);
        from_on = always_on g mounted mid last P (always_weaker g mounted mid _ _ (before_turns turns) opened.passes.from_on)
            (always_on g mid now last P (always_weaker g mid now _ _ (behind turns (length begun) (omega arith)) served)
            (always_weaker g now last _ _ (behind turns (known from turns) (knows_more g fits from turns safe)) since));
      }

  pub served_behind : (serves : Serving D) (turns : List (Turn D)) (now : List TimedCommand) (ahead' : Option Moments) (last : D) →
      (IsTold g first → IsTold g mid) →
      AllByRecursion takes now → now ≡ history_after from turns → serves (session from told ahead' now last) →
      AreSafe g fits from turns → Always g (disk_after from turns) last (Has fits from turns (known from turns)) →
      HasServed g takes fits past (course config ahead ahead' first last) serves
  served_behind serves turns now ahead' last tells given same served safe since = record {
    count = opened.count;
    least = opened.least;
    most = opened.most;
    configured = opened.configured;
    configures = opened.configures;
    told = told;
    asked = opened.asked;
    new_run = store.run;
    number = opened.number;
    middle = mid;
    now = now;
    tells = tells;
    runs_left = opened.runs_left;
    served = served;
    given = given;
    passes = subst (λ (all : List TimedCommand). Passes g fits past all store.run opened.count first last) (sym same)
        (passes_by turns last safe since);
  }

-- more may be said of requests
pub served_as : {D : Type 0} (g : Ghosts D) (takes : TimedCommand → Type 0) (fits : NamedItems →
    Type 0) (past : Past) (run : Course D) (serves says : Serving D) → (has : HasServed g takes fits past run serves) →
    says (session (begun_with past has.count has.configured has.new_run has.middle) has.told run.ahead' has.now run.disk) →
    HasServed g takes fits past run says
served_as g takes fits past run serves says has said = record {
  count = has.count;
  least = has.least;
  most = has.most;
  configured = has.configured;
  configures = has.configures;
  told = has.told;
  asked = has.asked;
  new_run = has.new_run;
  number = has.number;
  middle = has.middle;
  now = has.now;
  tells = has.tells;
  runs_left = has.runs_left;
  served = said;
  given = has.given;
  passes = has.passes;
}

-- what is said where something holds may be said where more does, and an end by another name that
-- says the same
pub requests_where : {D : Type 0} (g : Ghosts D) (fits : NamedItems →
    Type 0) (end told : Fed) (clean cleaner : Type 0) (link : Exchange) (s : Session D) → (cleaner → clean) → told ≡ end →
    Requests g fits end clean link s → Requests g fits told cleaner link s
requests_where g fits end told clean cleaner link s so same has =
    subst (λ (e : Fed). Requests g fits e cleaner link s) (sym same) (record {
      turns = has.turns;
      now_is = has.now_is;
      are = has.are;
      first = has.first;
      ends = has.ends;
      ends_behind = has.ends_behind;
      written = has.written;
      sent = λ holds. has.sent (so holds);
      begun = has.begun;
      told = has.told;
      behind = has.behind;
      all = has.all;
    })
