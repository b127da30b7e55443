-- How the parts of a run of the program join: mounting, putting settings in force, and commands.
use Rattle.std.proofs.Common.{◌≡◌, ◌≤◌, ◌<◌, ℕ, zero, suc, ℤ, Bool, true, false, List, [], ◌∷◌, length, length-append, length-take, take}
use Rattle.std.proofs.Common.{refl, sym, ap, ◌∙◌, subst, arith, inl, inr}
use Rattle.std.specs.List.{AllByRecursion}
use Rattle.std.specs.Prelude.{Result, Ok, Err, Option, Some}
use Rattle.ix_base.specs.Clocks.{Moments, Answered}
use Rattle.ix_base.specs.Told.{Told, HasWritten, HasBegun}
use Rattle.ix_base.specs.declared.events.ChannelMeta.{ChannelMeta}
use Rattle.ix_disk.proofs.Runs.{always_on, always_weaker}
use Rattle.ix_disk.specs.Image.{Image}
use Rattle.ix_commit.specs.Reads.{LeadsTo}
use Rattle.ix_disk.specs.Moments.{Always}
use Rattle.ix_disk.specs.declared.disk.Disk.{Ghosts}
use Rattle.ix_manifest.specs.Book.{NamedItems}
use Rattle.ix_items.specs.declared.items.Kept.{Kept}
use Rattle.ix_commit.specs.Snapshot.{Snapshot}
use Rattle.ix_model.specs.Given.{Chooser}
use Rattle.ix_model.specs.Step.{state_after}
use Rattle.ix_model.specs.declared.commands.Command.TheVariants.{Tick}
use Rattle.ix_model.specs.declared.commands.Config.{Config}
use Rattle.ix_model.specs.declared.commands.TimedCommand.{TimedCommand}
use Rattle.ix_run.proofs.Given.{more_of, given_more, fewer}
use Rattle.ix_run.proofs.Gone.{longer, stood_here}
use Rattle.ix_run.specs.Giving.{given_all}
use Rattle.ix_run.specs.Running.{AlwaysRecoverable, StandsFrom, outset}
use Rattle.ix_store.proofs.Counted.{take_more, take_taken}
use Rattle.ix_store.proofs.Joining.{more_taken}
use Rattle.ix_store.specs.Holding.{Represents, RepresentsStaged, IsMounted}
use Rattle.ix_store.specs.Written.{RecoversToPrefix}
use Rattle.ix_store.specs.declared.store.Store.{Store}
use Rattle.indexd_run.specs.Asked.{Asks}
use Rattle.indexd_run.specs.Ends.{IsLeft, Ends, Only, AtMost, same_kept}
use Rattle.indexd_run.specs.Previews.{Fed, HasFed}
use Rattle.indexd_run.specs.Shortened.{HasRunsLeft}
use Rattle.indexd_run.specs.Stops.{loses, loses_in, is_output}
use Rattle.indexd_run.proofs.Ending.{sound_settings}
use Rattle.indexd_run.specs.declared.stop.Stop.{Stop}
use Rattle.indexd_run.specs.declared.stop.Stop.TheVariants as stops
use Rattle.indexd_run.specs.Tasks.{orders_in, GaveAll, Gave, IsWhy, IsFine, says, HasPrinted, HasDone, HasHalted}
use Rattle.indexd_run.specs.declared.task.Task.{Task}
use Rattle.indexd_run.proofs.Tasks.{left_weaker, ends_weaker}
use Rattle.indexd_run.specs.Opened.{configuring, is_configured, Configures, Doing, IsNewRun, IsUnset, Passes, WhenOpen, WhenShut, giving}
use Rattle.indexd_run.specs.Opened.{HasOpened, HasRun, HasShut, Past, Course, course, StandsFor}

some_is : (a b : Image) → Some a ≡ Some b → a ≡ b
some_is a b is = cc

taken : (n : ℕ) (h : List TimedCommand) → n ≤ length h → length (take n h) ≡ n
taken n h within = omega (arith, length-take n h)

pub front_has : (P : TimedCommand → Type 0) (n : ℕ) (h : List TimedCommand) → AllByRecursion P h → AllByRecursion P (take n h)
front_has P zero [] all = all
front_has P zero (o ∷ h) all = tt
front_has P (suc n) [] all = all
front_has P (suc n) (o ∷ h) all = (all.0, front_has P n h all.1)

-- what was mounted and configured is of commands that are taken
pub begun_taken : (P : TimedCommand → Type 0) → ((moment : ℤ) → P (record { command = Tick; moment = moment })) →
    (choose : Chooser) (h : List TimedCommand) (config : Config) (is_same : Bool) (orders : List TimedCommand) →
    ((moment : ℤ) → P (configuring config moment)) → AllByRecursion P h → Configures is_same config orders →
    AllByRecursion P (given_all choose h orders)
begun_taken P ticks choose h config true orders has all none =
    subst (λ (os : List TimedCommand). AllByRecursion P (given_all choose h os)) (sym none) all
begun_taken P ticks choose h config false orders has all one =
    subst (λ (os : List TimedCommand). AllByRecursion P (given_all choose h os)) (sym one.1)
    (more_taken P ticks choose h (configuring config one.0) all (has one.0))

-- the clock was asked once
pub asked_once : (order : TimedCommand) (orders : List TimedCommand) (ahead ahead' : Option Moments) → orders ≡ order ∷ [] →
    Told (Answered order.moment) ahead ahead' → Asks orders ahead ahead'
asked_once order orders ahead ahead' is told = subst (λ (os : List TimedCommand). Asks os ahead ahead') (sym is) (ahead', told, refl)

-- what stands on the disk is sound
pub shut_sound : (stop : Stop) {D : Type 0} (g : Ghosts D) (takes : TimedCommand → Type 0) (fits : NamedItems →
    Type 0) (past : Past) (run : Course D) → stop ≡ stops.Inconsistent → HasShut stop g takes fits past run → ⊥
shut_sound stop g takes fits past run unsound (inl not) = not.sound unsound
shut_sound stop g takes fits past run unsound (inr was) =
    sound_settings past.choose (take was.count past.history) (configuring run.config was.allowed.moment) stop unsound was.allowed.why

module _ {D : Type 0} (g : Ghosts D) {M : Type 0} (fits : NamedItems → Type 0) (holds : Chooser → List TimedCommand → M →
    Type 0) where
  module _ (past : Past) (config : Config) where
    abbrev choose : Chooser
    choose = past.choose

    abbrev h : List TimedCommand
    h = past.history

    pub committed : (image : Image) (store : Store M) (mid : D) → (is : IsMounted g fits holds choose h past.least image store mid) →
        Represents g fits holds choose (take is.count h) is.count (length (take is.count h)) store mid
    committed image store mid is = subst (λ (n : ℕ). Represents g fits holds choose (take is.count h) is.count n store mid)
        (sym (taken is.count h is.most)) is.hold

    -- what the store says of its settings is so of what was mounted
    pub configured_as : (image : Image) (store : Store M) (mid : D) → (is : IsMounted g fits holds choose h past.least image store mid) →
        (kept : List Kept) →
        ((choose : Chooser) (history : List TimedCommand) (base k : ℕ) (old : Snapshot) →
        RepresentsStaged fits holds choose history base k store old → kept ≡ (state_after choose history).force) →
        (same answer : Bool) → same ≡ same_kept kept config.kept → same ≡ answer → is_configured choose (take is.count h) config ≡ answer
    configured_as image store mid is kept said same answer same_is answers =
        sym (ap (λ (force : List Kept). same_kept force config.kept)
        (said choose (take is.count h) is.count is.count is.hold.old is.hold.staged)) ∙ (sym same_is ∙ answers)

    -- all that was mounted is in every image
    all_mounted : (image : Image) (store : Store M) (mid : D) → (is : IsMounted g fits holds choose h past.least image store mid) →
        (other : Image) →
        g.may_leave mid other → RecoversToPrefix fits store.run choose (take is.count h) is.count other
    all_mounted image store mid is other may =
        (stood_here g fits store.run holds choose (take is.count h) is.count (length (take is.count h)) is.count store mid refl
        (omega (arith, taken is.count h is.most)) (committed image store mid is)).now other may

    -- its number is that behind the one that was found
    numbered : (image : Image) (mounted store : Store M) (first mid : D) →
        (is : IsMounted g fits holds choose h past.least image mounted mid) →
        g.seen first ≡ Some image → store.run ≡ mounted.run → IsNewRun g fits store.run first
    numbered image mounted store first mid is seen same other told =
        let the_same = some_is image other (sym seen ∙ told) in
        record {
          found = is.found.book;
          leads = subst (λ (i : Image). LeadsTo fits is.found.book i) the_same
              (record {
                checkpoints = is.keeps.checkpoints;
                in_root = is.keeps.in_root;
                bodies = is.keeps.bodies;
                in_log = is.keeps.in_log;
                replayed = is.keeps.replayed;
              });
          is = same ∙ is.run;
        }

    pub opened_same : (image : Image) (store : Store M) (first mid : D) (ahead : Option Moments) → g.seen first ≡ Some image →
        (is : IsMounted g fits holds choose h past.least image store mid) → Always g first mid (StandsFor fits past) →
        past.run < store.run →
        HasRunsLeft g fits first → is_configured choose (take is.count h) config ≡ true →
        HasOpened g fits holds past (course config ahead ahead first mid) store
    opened_same image store first mid ahead seen is stood later left same = record {
      count = is.count;
      least = is.least;
      most = is.most;
      configured = [];
      configures = subst (λ (b : Bool). Configures b config []) (sym same) refl;
      asked = refl;
      runs_left = left;
      hold = committed image store mid is;
      number = numbered image store store first mid is seen refl;
      passes = record {
        later = later;
        mounted = mid;
        first = take_taken is.count h;
        within = omega (arith, taken is.count h is.most);
        up_to = stood;
        at_mount = all_mounted image store mid is;
        from_on =
            (stood_here g fits store.run holds choose (take is.count h) is.count (length (take is.count h)) is.count store mid refl
            (omega (arith, taken is.count h is.most)) (committed image store mid is));
      };
    }

    -- the front that was mounted is the front still
    front_first : (count : ℕ) (orders : List TimedCommand) → count ≤ length h →
        take count (given_all choose (take count h) orders) ≡ take count h
    front_first count orders most =
        ap (take count) (given_more choose (take count h) orders)
        ∙ (take_more count (take count h) (more_of choose (take count h) orders) (omega (arith, taken count h most)) ∙ take_taken count h)

    front_within : (count : ℕ) (orders : List TimedCommand) → count ≤ length h → count ≤ length (given_all choose (take count h) orders)
    front_within count orders most =
        subst (λ (l : List TimedCommand). count ≤ length l) (sym (given_more choose (take count h) orders))
        (omega (arith, taken count h most, length-append (take count h) (more_of choose (take count h) orders)))

    -- what was mounted, and what was given over it
    over_mount : (new_run count : ℕ) (orders : List TimedCommand) (first mid last : D) → past.run < new_run → count ≤ length h →
        ((image : Image) → g.may_leave mid image → RecoversToPrefix fits new_run choose (take count h) count image) →
        Always g first mid (StandsFor fits past) →
        AlwaysRecoverable g fits new_run choose (given_all choose (take count h) orders) (length (take count h)) mid last →
        Passes g fits past (given_all choose (take count h) orders) new_run count first last
    over_mount new_run count orders first mid last later most at before stood = record {
      later = later;
      mounted = mid;
      first = front_first count orders most;
      within = front_within count orders most;
      up_to = before;
      at_mount = λ image may. subst (λ (l : List TimedCommand). RecoversToPrefix fits new_run choose l count image)
          (sym (given_more choose (take count h) orders))
          (longer fits new_run choose (take count h) (more_of choose (take count h) orders) count count image (omega arith) (at image may));
      from_on = fewer g fits new_run holds choose (given_all choose (take count h) orders) (length (take count h)) count mid last
          (omega (arith, taken count h most)) stood;
    }

    -- where the disk failed, what was mounted is in every image
    since_mount : (new_run count : ℕ) (orders : List TimedCommand) (first mid last : D) → past.run < new_run → count ≤ length h →
        ((image : Image) → g.may_leave mid image → RecoversToPrefix fits new_run choose (take count h) count image) →
        Always g first mid (StandsFor fits past) →
        AlwaysRecoverable g fits new_run choose (given_all choose (take count h) orders) (length (take count h)) mid last →
        StandsFrom g fits new_run choose (given_all choose (take count h) orders) count mid last
    unfolding over_mount
    since_mount new_run count orders first mid last later most at before stood =
        let passes = over_mount new_run count orders first mid last later most at before stood in
        record { at_first = passes.at_mount; since = passes.from_on }

    pub opened_by : (image : Image) (mounted store : Store M) (first mid last : D) (ahead ahead' : Option Moments) →
        g.seen first ≡ Some image → store.run ≡ mounted.run → (is : IsMounted g fits holds choose h past.least image mounted mid) →
        Always g first mid (StandsFor fits past) → past.run < mounted.run →
        HasRunsLeft g fits first → is_configured choose (take is.count h) config ≡ false → (moment : ℤ) →
        Told (Answered moment) ahead ahead' →
        IsLeft g fits holds (outset choose (take is.count h) is.count (length (take is.count h)) mounted.run mid)
        (Only (configuring config moment)) store last →
        HasOpened g fits holds past (course config ahead ahead' first last) store
    opened_by image mounted store first mid last ahead ahead' seen same_run is before later runs other moment told left = record {
      count = is.count;
      least = is.least;
      most = is.most;
      configured = left.orders;
      configures = subst (λ (b : Bool). Configures b config left.orders) (sym other) (moment, left.allowed);
      asked = asked_once (configuring config moment) left.orders ahead ahead' left.allowed told;
      runs_left = runs;
      hold = left.all.hold;
      number = numbered image mounted store first mid is seen same_run;
      passes = subst (λ (new_run : ℕ). Passes g fits past (given_all choose (take is.count h) left.orders) new_run is.count first last)
          (sym same_run)
          (over_mount mounted.run is.count left.orders first mid last later is.most (all_mounted image mounted mid is) before
          left.all.stood);
    }

    -- the run stops where settings are to be put in force
    module _ (image : Image) (mounted store : Store M) (first mid last : D) (ahead ahead' : Option Moments)
        (seen : g.seen first ≡ Some image) (is : IsMounted g fits holds choose h past.least image mounted mid)
        (before : Always g first mid (StandsFor fits past))
        (later : past.run < mounted.run) (runs : HasRunsLeft g fits first) (other : is_configured choose (take is.count h) config ≡ false)
        (moment : ℤ) (told : Told (Answered moment) ahead ahead') (stop : Stop)
        (why : IsUnset choose (take is.count h) (configuring config moment) stop) where
      shut : (orders : List TimedCommand) → AtMost (configuring config moment) orders →
          WhenShut choose config stop ahead ahead' (take is.count h) orders []
      shut orders at_most = record {
        differ = other;
        moment = moment;
        asked = asked_once (configuring config moment) (configuring config moment ∷ []) ahead ahead' refl told;
        at_most = at_most;
        why = why;
        none = refl;
      }

      shut_by : (takes : TimedCommand → Type 0) → ((orders : List TimedCommand) → AtMost (configuring config moment) orders →
          AllByRecursion takes (given_all choose (take is.count h) orders)) →
          (lost : Bool) → Ends lost g fits holds (outset choose (take is.count h) is.count (length (take is.count h)) mounted.run mid)
          (AtMost (configuring config moment)) store last → HasRun lost g takes fits past
          (WhenShut choose config stop ahead ahead') first last
      shut_by takes given true ends = record {
        count = is.count;
        least = is.least;
        most = is.most;
        configured = ends.orders;
        orders = [];
        new_run = mounted.run;
        number = numbered image mounted mounted first mid is seen refl;
        runs_left = runs;
        allowed = shut ends.orders ends.allowed;
        given = given ends.orders ends.allowed;
        passes = over_mount mounted.run is.count ends.orders first mid last later is.most (all_mounted image mounted mid is) before
            ends.stood;
        committed = mid;
        lasts = since_mount mounted.run is.count ends.orders first mid last later is.most (all_mounted image mounted mid is) before
            ends.stood;
      }
      shut_by takes given false ends = record {
        count = is.count;
        least = is.least;
        most = is.most;
        configured = ends.orders;
        orders = [];
        new_run = mounted.run;
        number = numbered image mounted mounted first mid is seen refl;
        runs_left = runs;
        allowed = shut ends.orders ends.allowed;
        given = given ends.orders ends.allowed;
        passes = over_mount mounted.run is.count ends.orders first mid last later is.most (all_mounted image mounted mid is) before
            ends.all.stood;
        committed = ends.committed;
        lasts = ends.lasts;
      }

      pub stopped_by : (takes : TimedCommand → Type 0) →
          ((orders : List TimedCommand) → AtMost (configuring config moment) orders →
          AllByRecursion takes (given_all choose (take is.count h) orders)) →
          Ends (loses stop) g fits holds (outset choose (take is.count h) is.count (length (take is.count h)) mounted.run mid)
          (AtMost (configuring config moment)) store last →
          HasShut stop g takes fits past (course config ahead ahead' first last)
      stopped_by takes given ends = inr (shut_by takes given (loses stop) ends)

    -- ---- commands behind these

    module _ (mounted : Store M) (ahead ahead' : Option Moments) (first mid last : D)
        (opened : HasOpened g fits holds past (course config ahead ahead' first mid) mounted) where
      abbrev begun : List TimedCommand
      begun = given_all choose (take opened.count h) opened.configured

      at_least : opened.count ≤ length begun
      at_least = opened.hold.staged.from_base

      since : (orders : List TimedCommand) → AlwaysRecoverable g fits mounted.run choose (given_all choose begun orders) (length begun) mid
          last → AlwaysRecoverable g fits mounted.run choose (given_all choose begun orders) opened.count mid last
      since orders stood = fewer g fits mounted.run holds choose (given_all choose begun orders) (length begun) opened.count mid last
          at_least stood

      still : (orders : List TimedCommand) (image : Image) → RecoversToPrefix fits mounted.run choose begun opened.count image →
          RecoversToPrefix fits mounted.run choose (given_all choose begun orders) opened.count image
      still orders image stands = subst (λ (some : List TimedCommand). RecoversToPrefix fits mounted.run choose some opened.count image)
          (sym (given_more choose begun orders))
          (longer fits mounted.run choose begun (more_of choose begun orders) opened.count opened.count image (omega arith) stands)

      over_opened : (orders : List TimedCommand) → AlwaysRecoverable g fits mounted.run choose (given_all choose begun orders)
          (length begun) mid last → Passes g fits past (given_all choose begun orders) mounted.run opened.count first last
      over_opened orders stood = record {
        later = opened.passes.later;
        mounted = opened.passes.mounted;
        first = ap (take opened.count) (given_more choose begun orders)
            ∙ (take_more opened.count begun (more_of choose begun orders) opened.passes.within ∙ opened.passes.first);
        within = subst (λ (l : List TimedCommand). opened.count ≤ length l) (sym (given_more choose begun orders))
            (omega (arith, opened.passes.within, length-append begun (more_of choose begun orders)));
        up_to = opened.passes.up_to;
        at_mount = λ image may. still orders image (opened.passes.at_mount image may);
        from_on = always_on g opened.passes.mounted mid last
            (RecoversToPrefix fits mounted.run choose (given_all choose begun orders) opened.count)
            (always_weaker g opened.passes.mounted mid _ _ (still orders) opened.passes.from_on)
            (since orders stood);
      }

      when_open : (may : Doing) (orders : List TimedCommand) → may (giving opened.count ahead' begun orders) →
          WhenOpen choose config ahead may (take opened.count h) opened.configured orders
      when_open may orders so = record {
        configures = opened.configures;
        told = ahead';
        asked = opened.asked;
        behind = subst (λ (n : ℕ). may (giving n ahead' begun orders)) (sym (taken opened.count h opened.most)) so;
      }

      -- what was given, and may be given
      abbrev pub AndGiven : (TimedCommand → Type 0) → (List TimedCommand → Type 0) → List TimedCommand → Type 0
      AndGiven takes may orders = may orders × AllByRecursion takes (given_all choose begun orders)

      pub run_by : (takes : TimedCommand → Type 0) (store : Store M) (may : Doing) (lost : Bool) →
          Ends lost g fits holds (outset choose begun opened.count (length begun) mounted.run mid)
          (AndGiven takes (λ orders. may (giving opened.count ahead' begun orders))) store last →
          HasRun lost g takes fits past (WhenOpen choose config ahead may) first last
      unfolding over_opened
      run_by takes store may true ends = record {
        count = opened.count;
        least = opened.least;
        most = opened.most;
        configured = opened.configured;
        orders = ends.orders;
        new_run = mounted.run;
        number = opened.number;
        runs_left = opened.runs_left;
        allowed = when_open may ends.orders ends.allowed.0;
        given = ends.allowed.1;
        passes = over_opened ends.orders ends.stood;
        committed = opened.passes.mounted;
        lasts = record {
          at_first = (over_opened ends.orders ends.stood).at_mount;
          since = (over_opened ends.orders ends.stood).from_on;
        };
      }
      run_by takes store may false ends = record {
        count = opened.count;
        least = opened.least;
        most = opened.most;
        configured = opened.configured;
        orders = ends.orders;
        new_run = mounted.run;
        number = opened.number;
        runs_left = opened.runs_left;
        allowed = when_open may ends.orders ends.allowed.0;
        given = ends.allowed.1;
        passes = over_opened ends.orders ends.all.stood;
        committed = ends.committed;
        lasts = ends.lasts;
      }

      -- ---- a task

      module _ (store : Store M) (task : Task) (moment : ℤ) (ahead'' : Option Moments) (asked : Asks (orders_in task moment) ahead' ahead'')
          (out out' : Option (List ℕ)) where
        pub done_when : (result : Result Unit Stop) (done : Unit) → result ≡ Ok done → IsFine choose begun task moment →
            HasPrinted HasWritten g choose begun task moment last out out' →
            Ends (loses_in result) g fits holds (outset choose begun opened.count (length begun) mounted.run mid)
            (Gave result (orders_in task moment)) store last →
            (takes : TimedCommand → Type 0) → ((orders : List TimedCommand) (moment : ℤ) → orders ≡ orders_in task moment →
            AllByRecursion takes (given_all choose begun orders)) →
            HasRun false g takes fits past (WhenOpen choose config ahead (HasDone g choose task ahead'' out out' last)) first last
        done_when result done is fine printed ends takes given =
            run_by takes store (HasDone g choose task ahead'' out out' last) false
            (left_weaker g fits mounted.run holds choose begun opened.count store mid last (λ orders. orders ≡ orders_in task moment)
            (AndGiven takes (λ orders. HasDone g choose task ahead'' out out' last (giving opened.count ahead' begun orders)))
            (λ orders are. (
              record { moment = moment; orders_are = are; asked = asked; fine = fine; printed = printed },
              given orders moment are,
            ))
            (subst (λ (r : Result Unit Stop). Ends (loses_in r) g fits holds
            (outset choose begun opened.count (length begun) mounted.run mid)
            (Gave r (orders_in task moment)) store last) is ends))

        pub halted_when : (result : Result Unit Stop) (stop : Stop) → result ≡ Err stop → IsWhy choose begun task moment stop →
            (says task stop ≡ true → HasPrinted HasBegun g choose begun task moment last out out') →
            Ends (loses_in result) g fits holds (outset choose begun opened.count (length begun) mounted.run mid)
            (Gave result (orders_in task moment)) store last →
            (takes : TimedCommand → Type 0) → ((orders : List TimedCommand) (moment : ℤ) →
            GaveAll (is_output stop) (orders_in task moment) orders → AllByRecursion takes (given_all choose begun orders)) →
            HasRun (loses stop) g takes fits past (WhenOpen choose config ahead (HasHalted g choose task stop ahead'' out out' last)) first
            last
        halted_when result stop is why printed ends takes given =
            run_by takes store (HasHalted g choose task stop ahead'' out out' last) (loses stop)
            (ends_weaker g fits mounted.run holds choose begun opened.count store mid last (loses stop)
            (GaveAll (is_output stop) (orders_in task moment))
            (AndGiven takes (λ orders. HasHalted g choose task stop ahead'' out out' last (giving opened.count ahead' begun orders)))
            (λ orders are. (
              record { moment = moment; orders_are = are; asked = asked; why = why; printed = printed },
              given orders moment are,
            ))
            (subst (λ (r : Result Unit Stop). Ends (loses_in r) g fits holds
            (outset choose begun opened.count (length begun) mounted.run mid)
            (Gave r (orders_in task moment)) store last) is ends))

      -- ---- an input

      module _ (store : Store M) (origin : ChannelMeta) (moment : ℤ) (ahead'' : Option Moments)
          (told : Told (Answered moment) ahead' ahead'') (left left' : Option (List ℕ)) where
        abbrev fed_of : (TimedCommand → Type 0) → Result Unit Stop → Type 0
        fed_of takes result = Ends (loses_in result) g fits holds (outset choose begun opened.count (length begun) mounted.run mid)
            (AndGiven takes (Fed choose opened.count begun origin moment result left left')) store last

        pub fed_when : (takes : TimedCommand → Type 0) (result : Result Unit Stop) → fed_of takes result →
            HasRun (loses_in result) g takes fits past (WhenOpen choose config ahead (HasFed choose origin result ahead'' left left')) first
            last
        fed_when takes result ends = run_by takes store (HasFed choose origin result ahead'' left left') (loses_in result)
            (ends_weaker g fits mounted.run holds choose begun opened.count store mid last (loses_in result)
            (AndGiven takes (Fed choose opened.count begun origin moment result left left'))
            (AndGiven takes (λ orders. HasFed choose origin result ahead'' left left' (giving opened.count ahead' begun orders)))
            (λ orders fed. (record { moment = moment; asked = told; fed = fed.0 }, fed.1)) ends)
