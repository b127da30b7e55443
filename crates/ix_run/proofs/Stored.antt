-- Runs that store an input.
use Rattle.std.proofs.Common.{◌≡◌, ◌≤◌, ℕ, ℤ, Bool, true, false, List, [], ◌∷◌, ◌++◌, length, map, drop, refl, sym, ap, ◌∙◌, subst, arith}
use Rattle.std.proofs.Common.{append_assoc}
use Rattle.std.specs.Prelude.{Option, Some, None, Result, Ok, Err}
use Rattle.std.specs.List.{AllByRecursion}
use Rattle.std.proofs.lemmas.List.{append-nil}
use Rattle.std.proofs.lemmas.Grind.{flat_map-append}
use Rattle.ix_base.specs.Told.{Told, Took}
use Rattle.ix_base.specs.declared.events.ChannelMeta.{ChannelMeta}
use Rattle.ix_disk.specs.declared.disk.Disk.{Ghosts}
use Rattle.ix_manifest.specs.Book.{NamedItems}
use Rattle.ix_commit.specs.declared.fault.CommitFault.{CommitFault}
use Rattle.ix_model.specs.Bounds.{IsAllowed}
use Rattle.ix_model.specs.Given.{Chooser}
use Rattle.ix_model.specs.Step.{state_after}
use Rattle.ix_model.specs.declared.answers.Accepted.{Accepted}
use Rattle.ix_model.specs.declared.answers.Refusal.TheVariants as refusals
use Rattle.ix_model.specs.declared.commands.Command.TheVariants.{Tick}
use Rattle.ix_model.specs.declared.commands.TimedCommand.{TimedCommand}
use Rattle.ix_store.specs.Counting.{numbers}
use Rattle.ix_store.specs.Holding.{Represents}
use Rattle.ix_store.specs.Making.{with_order}
use Rattle.ix_store.specs.declared.store.Store.{Store}
use Rattle.ix_store.proofs.Joining.{more_taken}
use Rattle.ix_run.specs.Giving.{given_all, HasGivenAll, HasKeptAll}
use Rattle.ix_run.specs.Running.{AlwaysRecoverable, IsGiven, IsNotGiven, outset}
use Rattle.ix_run.specs.Storing.{begin_order, block_order, end_order, opening, filling, joined, IsBlock, IsRead, IsNextRefused, HaltsAt}
use Rattle.ix_run.specs.Storing.{HasHalted, Gives, Feeds, Stores, is_run_cut}
use Rattle.ix_run.specs.declared.giving.GiveFault.{GiveFault}
use Rattle.ix_run.specs.declared.giving.GiveFault.TheVariants as faults
use Rattle.ix_run.specs.declared.input.RunFault.{RunFault}
use Rattle.ix_run.specs.declared.input.RunFault.TheVariants as stops
use Rattle.ix_run.proofs.Gone.{stood_on, stood_here, none_more}
use Rattle.ix_run.proofs.Given.{given_join, allowed_join, stood_given, fewer}

-- ---- what is read

pub took_both : (a b : List ℕ) (x y z : Option (List ℕ)) → Told (Took a) x y → Told (Took b) y z → Told (Took (a ++ b)) x z
took_both a b None None None p q = tt
took_both a b None None (Some z) p q = absurd q
took_both a b None (Some y) z p q = absurd p
took_both a b (Some x) None z p q = absurd p
took_both a b (Some x) (Some y) None p q = absurd q
took_both a b (Some x) (Some y) (Some z) p q = p ∙ ap (λ (l : List ℕ). a ++ l) q ∙ sym (append_assoc a b z)

pub took_none : (x : Option (List ℕ)) → Told (Took []) x x
took_none None = tt
took_none (Some bytes) = refl

-- a block more
pub joined_more : (blocks : List (List ℕ)) (bytes : List ℕ) → joined (blocks ++ bytes ∷ []) ≡ joined blocks ++ bytes
joined_more blocks bytes = flat_map-append (λ (block : List ℕ). block) blocks (bytes ∷ [])
    ∙ ap (λ (l : List ℕ). joined blocks ++ l) (append-nil bytes)

pub took_more : (blocks : List (List ℕ)) (bytes : List ℕ) (x y z : Option (List ℕ)) → Told (Took (joined blocks)) x y →
    Told (Took bytes) y z → Told (Took (joined (blocks ++ bytes ∷ []))) x z
took_more blocks bytes x y z p q = subst (λ (l : List ℕ). Told (Took l) x z) (sym (joined_more blocks bytes))
    (took_both (joined blocks) bytes x y z p q)

pub read_failed : (result : Result Unit RunFault) (fault : CommitFault) (taken : ℕ) (left : Option (List ℕ)) (failed failed' : ℕ) →
    IsRead result taken left failed failed' →
    IsRead (Err (stops.Given (faults.Commit fault))) taken left failed failed'
read_failed (Ok done) fault taken left failed failed' read = omega (arith, read.0)
read_failed (Err (stops.Given other)) fault taken left failed failed' read = read
read_failed (Err stops.Input) fault taken left failed failed' read = omega (arith, read.0)
read_failed (Err stops.Endless) fault taken left failed failed' read = omega (arith, read)

-- ---- what is taken

pub all_taken : (takes : TimedCommand → Type 0) → ((moment : ℤ) → takes (record { command = Tick; moment = moment })) →
    (choose : Chooser) (h os : List TimedCommand) →
    AllByRecursion takes h → AllByRecursion takes os → AllByRecursion takes (given_all choose h os)
all_taken takes ticks choose h [] all more = all
all_taken takes ticks choose h (o ∷ os) all more = all_taken takes ticks choose (with_order choose h o) os
    (more_taken takes ticks choose h o all more.0) more.1

pub blocks_taken : (takes : TimedCommand → Type 0) (moment : ℤ) → ((bytes : List ℕ) → IsBlock bytes → takes (block_order moment bytes)) →
    (blocks : List (List ℕ)) → AllByRecursion IsBlock blocks →
    AllByRecursion takes (map (block_order moment) blocks)
blocks_taken takes moment adds [] sizes = tt
blocks_taken takes moment adds (bytes ∷ blocks) sizes = (adds bytes sizes.0, blocks_taken takes moment adds blocks sizes.1)

pub opening_taken : (takes : TimedCommand → Type 0) (origin : ChannelMeta) (moment : ℤ) → takes (end_order moment) →
    takes (begin_order origin moment) → (is_open : Bool) → AllByRecursion takes (opening is_open origin moment)
opening_taken takes origin moment ends begins true = (ends, (begins, tt))
opening_taken takes origin moment ends begins false = (begins, tt)

-- ---- one command

module _ {D : Type 0} (g : Ghosts D) {M : Type 0} (fits : NamedItems → Type 0) (holds : Chooser → List TimedCommand → M →
    Type 0) (choose : Chooser) where
  pub gave_one : (h : List TimedCommand) (base k : ℕ) (order : TimedCommand) (old store : Store M) (first last : D) (answer : Accepted) →
      Represents g fits holds choose h base k old first → IsGiven g fits holds (outset choose h base k old.run first) order old.drawn
      answer store last →
      HasGivenAll g fits holds (outset choose h base k old.run first) (order ∷ []) store last
  gave_one h base k order old store first last answer hold is = record {
    count = is.gone.count;
    kept = is.gone.kept;
    same_run = is.gone.same_run;
    allowed = (
      subst (λ (drawn : ℕ). IsAllowed choose false drawn (state_after choose h) order) hold.staged.counted.drawn_are is.allowed,
      tt,
    );
    hold = is.gone.hold;
    stood = is.gone.stood;
  }

  pub gave_none : (h : List TimedCommand) (base k : ℕ) (order : TimedCommand) (old store : Store M) (first last : D) (fault : GiveFault) →
      Represents g fits holds choose h base k old first →
      IsNotGiven g fits holds (outset choose h base k old.run first) order old.drawn fault store last →
      Gives g fits holds (outset choose h base k old.run first) store last (Err fault) (order ∷ [])
  gave_none h base k order old store first last (faults.Refused refusal) hold not = record {
    given = [];
    rest = order ∷ [];
    parts = refl;
    halts = (
      subst (λ (drawn : ℕ). IsNextRefused choose drawn (state_after choose h) refusal (order ∷ [])) hold.staged.counted.drawn_are not.0,
      record {
        count = not.1.count;
        kept = not.1.kept;
        allowed = tt;
        same_run = not.1.same_run;
        hold = subst (λ (some : List TimedCommand). Represents g fits holds choose some base not.1.count store last) (none_more h)
            not.1.hold;
        stood = subst (λ (some : List TimedCommand). AlwaysRecoverable g fits old.run choose some k first last) (none_more h) not.1.stood;
      },
    );
  }
  gave_none h base k order old store first last (faults.Commit fault) hold not =
      record { given = order ∷ []; rest = []; parts = refl; halts = not }

-- ---- commands that are given

module _ {D : Type 0} (g : Ghosts D) {M : Type 0} (fits : NamedItems → Type 0) (run : ℕ) (holds : Chooser → List TimedCommand → M →
    Type 0) (choose : Chooser) where
  pub given_none : (h : List TimedCommand) (base k : ℕ) (store : Store M) (disk : D) → store.run ≡ run →
      Represents g fits holds choose h base k store disk → HasGivenAll g fits holds (outset choose h base k run disk) [] store disk
  given_none h base k store disk is hold = record {
    count = k;
    kept = omega arith;
    allowed = tt;
    same_run = is;
    hold = hold;
    stood = stood_here g fits run holds choose h base k k store disk is (omega arith) hold;
  }

  stood_join : (h a b : List TimedCommand) (k n : ℕ) (first mid last : D) → k ≤ n →
      AlwaysRecoverable g fits run choose (given_all choose h a) k first mid →
      AlwaysRecoverable g fits run choose (given_all choose (given_all choose h a) b) n mid last →
      AlwaysRecoverable g fits run choose (given_all choose h (a ++ b)) k first last
  stood_join h a b k n first mid last le one two =
      subst (λ (some : List TimedCommand). AlwaysRecoverable g fits run choose some k first last) (sym (given_join choose h a b))
      (stood_on g fits run holds choose (given_all choose (given_all choose h a) b) k first mid last
      (stood_given g fits run holds choose (given_all choose h a) b k k first mid (omega arith) one)
      (fewer g fits run holds choose (given_all choose (given_all choose h a) b) n k mid last le two))

  pub given_on : (h a b : List TimedCommand) (base k : ℕ) (mid_store store : Store M) (first mid last : D) →
      (one : HasGivenAll g fits holds (outset choose h base k run first) a mid_store mid) →
      HasGivenAll g fits holds (outset choose (given_all choose h a) base one.count mid_store.run mid) b store last →
      HasGivenAll g fits holds (outset choose h base k run first) (a ++ b) store last
  given_on h a b base k mid_store store first mid last one two = record {
    count = two.count;
    kept = omega (arith, one.kept, two.kept);
    allowed = allowed_join choose base h a b one.allowed two.allowed;
    same_run = two.same_run ∙ one.same_run;
    hold = subst (λ (some : List TimedCommand). Represents g fits holds choose some base two.count store last)
        (sym (given_join choose h a b)) two.hold;
    stood = stood_join h a b k one.count first mid last one.kept one.stood
        (subst (λ (run : ℕ). AlwaysRecoverable g fits run choose (given_all choose (given_all choose h a) b) one.count mid last)
        one.same_run two.stood);
  }

  halts_on : (h a : List TimedCommand) (base k : ℕ) (mid_store store : Store M) (first mid last : D) →
      (one : HasGivenAll g fits holds (outset choose h base k run first) a mid_store mid) → (fault : GiveFault)
      (given rest : List TimedCommand) →
      HaltsAt choose (given_all choose h a) base (λ (given : List TimedCommand).
      HasGivenAll g fits holds (outset choose (given_all choose h a) base one.count mid_store.run mid) given store last)
      (λ (given : List TimedCommand). AlwaysRecoverable g fits mid_store.run choose (given_all choose (given_all choose h a) given)
      one.count mid last) fault given rest →
      HaltsAt choose h base (λ (given : List TimedCommand). HasGivenAll g fits holds (outset choose h base k run first) given store last)
      (λ (given : List TimedCommand). AlwaysRecoverable g fits run choose (given_all choose h given) k first last) fault (a
      ++ given) rest
  halts_on h a base k mid_store store first mid last one (faults.Refused refusal) given rest halts = (
    subst (λ (some : List TimedCommand). IsNextRefused choose (numbers (drop base some)) (state_after choose some) refusal rest)
        (sym (given_join choose h a given)) halts.0,
    given_on h a given base k mid_store store first mid last one halts.1,
  )
  halts_on h a base k mid_store store first mid last one (faults.Commit fault) given rest halts =
      stood_join h a given k one.count first mid last one.kept one.stood
      (subst (λ (run : ℕ). AlwaysRecoverable g fits run choose (given_all choose (given_all choose h a) given) one.count mid last)
      one.same_run halts)

  pub gives_on : (h a b : List TimedCommand) (base k : ℕ) (mid_store store : Store M) (first mid last : D) →
      (one : HasGivenAll g fits holds (outset choose h base k run first) a mid_store mid) → (result : Result Unit GiveFault) →
      Gives g fits holds (outset choose (given_all choose h a) base one.count mid_store.run mid) store last result b →
      Gives g fits holds (outset choose h base k run first) store last result (a ++ b)
  gives_on h a b base k mid_store store first mid last one (Ok done) two = given_on h a b base k mid_store store first mid last one two
  gives_on h a b base k mid_store store first mid last one (Err fault) two = record {
    given = a ++ two.given;
    rest = two.rest;
    parts = ap (λ (l : List TimedCommand). a ++ l) two.parts ∙ sym (append_assoc a two.given two.rest);
    halts = halts_on h a base k mid_store store first mid last one fault two.given two.rest two.halts;
  }

  halts_more : (h : List TimedCommand) (base : ℕ) (keeps stood : List TimedCommand →
      Type 0) (fault : GiveFault) (given rest more : List TimedCommand) → HaltsAt choose h base keeps stood fault given rest →
      HaltsAt choose h base keeps stood fault given (rest ++ more)
  halts_more h base keeps stood (faults.Refused refusal) given [] more halts = absurd halts.0
  halts_more h base keeps stood (faults.Refused refusal) given (o ∷ rest) more halts = halts
  halts_more h base keeps stood (faults.Commit fault) given rest more halts = halts

  -- others were to come behind
  pub halted_more : (h : List TimedCommand) (base : ℕ) (keeps stood : List TimedCommand →
      Type 0) (fault : GiveFault) (a more : List TimedCommand) → HasHalted choose h base keeps stood fault a →
      HasHalted choose h base keeps stood fault (a ++ more)
  halted_more h base keeps stood fault a more halted = record {
    given = halted.given;
    rest = halted.rest ++ more;
    parts = ap (λ (l : List TimedCommand). l ++ more) halted.parts ∙ append_assoc halted.given halted.rest more;
    halts = halts_more h base keeps stood fault halted.given halted.rest more halted.halts;
  }

  -- there was no room for the first
  pub halted_none : (h : List TimedCommand) (base k : ℕ) (store : Store M) (disk : D) (o : TimedCommand) (os : List TimedCommand) →
      store.run ≡ run → Represents g fits holds choose h base k store disk →
      Gives g fits holds (outset choose h base k run disk) store disk (Err (faults.Refused refusals.NoMemory)) (o ∷ os)
  halted_none h base k store disk o os is hold = record {
    given = [];
    rest = o ∷ os;
    parts = refl;
    halts = (tt, given_none h base k store disk is hold);
  }

  pub halted_first : (h : List TimedCommand) (base k : ℕ) (store : Store M) (disk : D) (is_open : Bool) (origin : ChannelMeta)
      (moment : ℤ) → store.run ≡ run → Represents g fits holds choose h base k store disk →
      Feeds g fits holds (outset choose h base k run disk) store disk (Err (stops.Given (faults.Refused refusals.NoMemory)))
      (filling is_open origin moment []) (end_order moment ∷ [])
  halted_first h base k store disk true origin moment is hold =
      halted_none h base k store disk (end_order moment) (begin_order origin moment ∷ end_order moment ∷ []) is hold
  halted_first h base k store disk false origin moment is hold =
      halted_none h base k store disk (begin_order origin moment) (end_order moment ∷ []) is hold

  -- ---- the channel is ended where it is open, and begun

  pub began : (h : List TimedCommand) (base k : ℕ) (store : Store M) (first last : D) (result : Result Unit GiveFault) (is_open : Bool)
      (origin : ChannelMeta) (moment : ℤ) → is_open ≡ false →
      Gives g fits holds (outset choose h base k run first) store last result (begin_order origin moment ∷ []) →
      Gives g fits holds (outset choose h base k run first) store last result (opening is_open origin moment)
  began h base k store first last result is_open origin moment is gives =
      subst (λ (opens : Bool). Gives g fits holds (outset choose h base k run first) store last result (opening opens origin moment))
      (sym is) gives

  pub begun_again : (h : List TimedCommand) (base k : ℕ) (mid_store store : Store M) (first mid last : D) (result : Result Unit GiveFault)
      (is_open : Bool) (origin : ChannelMeta) (moment : ℤ) → is_open ≡ true →
      (one : HasGivenAll g fits holds (outset choose h base k run first) (end_order moment ∷ []) mid_store mid) →
      Gives g fits holds (outset choose (given_all choose h (end_order moment ∷ [])) base one.count mid_store.run mid) store last result
      (begin_order origin moment ∷ []) →
      Gives g fits holds (outset choose h base k run first) store last result (opening is_open origin moment)
  begun_again h base k mid_store store first mid last result is_open origin moment is one gives =
      subst (λ (opens : Bool). Gives g fits holds (outset choose h base k run first) store last result (opening opens origin moment))
      (sym is)
      (gives_on h (end_order moment ∷ []) (begin_order origin moment ∷ []) base k mid_store store first mid last one result gives)

  pub not_ended : (h : List TimedCommand) (base k : ℕ) (store : Store M) (first last : D) (fault : GiveFault) (is_open : Bool)
      (origin : ChannelMeta) (moment : ℤ) → is_open ≡ true →
      Gives g fits holds (outset choose h base k run first) store last (Err fault) (end_order moment ∷ []) →
      Gives g fits holds (outset choose h base k run first) store last (Err fault) (opening is_open origin moment)
  not_ended h base k store first last fault is_open origin moment is gives =
      subst (λ (opens : Bool). Gives g fits holds (outset choose h base k run first) store last (Err fault) (opening opens origin moment))
      (sym is)
      (halted_more h base (λ (given : List TimedCommand). HasGivenAll g fits holds (outset choose h base k run first) given store last)
      (λ (given : List TimedCommand). AlwaysRecoverable g fits run choose (given_all choose h given) k first last) fault
      (end_order moment ∷ []) (begin_order origin moment ∷ []) gives)

  -- ---- the parts of a run

  pub feeds_on : (h a filled ending : List TimedCommand) (base k : ℕ) (mid_store store : Store M) (first mid last : D) →
      (one : HasGivenAll g fits holds (outset choose h base k run first) a mid_store mid) → (result : Result Unit RunFault) →
      Feeds g fits holds (outset choose (given_all choose h a) base one.count mid_store.run mid) store last result filled ending →
      Feeds g fits holds (outset choose h base k run first) store last result (a ++ filled) ending
  feeds_on h a filled ending base k mid_store store first mid last one (Ok done) two =
      subst (λ (some : List TimedCommand). HasGivenAll g fits holds (outset choose h base k run first) some store last)
      (sym (append_assoc a filled ending))
      (given_on h a (filled ++ ending) base k mid_store store first mid last one two)
  feeds_on h a filled ending base k mid_store store first mid last one (Err (stops.Given fault)) two =
      subst (λ (some : List TimedCommand). Gives g fits holds (outset choose h base k run first) store last (Err fault) some)
      (sym (append_assoc a filled ending))
      (gives_on h a (filled ++ ending) base k mid_store store first mid last one (Err fault) two)
  feeds_on h a filled ending base k mid_store store first mid last one (Err stops.Input) two =
      given_on h a filled base k mid_store store first mid last one two
  feeds_on h a filled ending base k mid_store store first mid last one (Err stops.Endless) two =
      given_on h a filled base k mid_store store first mid last one two

  -- the input was not read to its end, so its channel is not ended
  pub feeds_more : (h filled ending : List TimedCommand) (base k : ℕ) (store : Store M) (first last : D) (fault : RunFault) →
      Feeds g fits holds (outset choose h base k run first) store last (Err fault) filled [] →
      Feeds g fits holds (outset choose h base k run first) store last (Err fault) filled ending
  feeds_more h filled ending base k store first last (stops.Given fault) feeds =
      halted_more h base (λ (given : List TimedCommand). HasGivenAll g fits holds (outset choose h base k run first) given store last)
      (λ (given : List TimedCommand). AlwaysRecoverable g fits run choose (given_all choose h given) k first last) fault filled ending
      (subst (λ (some : List TimedCommand). Gives g fits holds (outset choose h base k run first) store last (Err fault) some)
      (append-nil filled)
      feeds)
  feeds_more h filled ending base k store first last stops.Input feeds = feeds
  feeds_more h filled ending base k store first last stops.Endless feeds = feeds

  pub filled_all : (h filled : List TimedCommand) (base k : ℕ) (store : Store M) (first last : D) →
      HasGivenAll g fits holds (outset choose h base k run first) (filled ++ []) store last →
      HasGivenAll g fits holds (outset choose h base k run first) filled store last
  filled_all h filled base k store first last all = subst
      (λ (some : List TimedCommand). HasGivenAll g fits holds (outset choose h base k run first) some store last) (append-nil filled) all

  pub opened : (h a : List TimedCommand) (base k : ℕ) (store : Store M) (first last : D) (fault : GiveFault)
      (filled ending : List TimedCommand) → Gives g fits holds (outset choose h base k run first) store last (Err fault) a →
      Feeds g fits holds (outset choose h base k run first) store last (Err (stops.Given fault)) (a ++ filled) ending
  opened h a base k store first last fault filled ending gives =
      subst (λ (some : List TimedCommand). Gives g fits holds (outset choose h base k run first) store last (Err fault) some)
      (sym (append_assoc a filled ending))
      (halted_more h base (λ (given : List TimedCommand). HasGivenAll g fits holds (outset choose h base k run first) given store last)
      (λ (given : List TimedCommand). AlwaysRecoverable g fits run choose (given_all choose h given) k first last) fault a (filled
      ++ ending) gives)

  -- ---- the commit at the end

  module _ (h : List TimedCommand) (base k : ℕ) (mid_store store : Store M) (first mid last : D)
      (stood : (history : List TimedCommand) (base k : ℕ) → Represents g fits holds choose history base k mid_store mid →
      AlwaysRecoverable g fits mid_store.run choose history k mid last) where
    stood_to : (os : List TimedCommand) → HasGivenAll g fits holds (outset choose h base k run first) os mid_store mid →
        AlwaysRecoverable g fits run choose (given_all choose h os) k first last
    stood_to os one = stood_on g fits run holds choose (given_all choose h os) k first mid last one.stood
        (fewer g fits run holds choose (given_all choose h os) one.count k mid last one.kept
        (subst (λ (run : ℕ). AlwaysRecoverable g fits run choose (given_all choose h os) one.count mid last) one.same_run
        (stood (given_all choose h os) base one.count one.hold)))

    -- the disk fails
    pub failed : (result : Result Unit RunFault) (fault : CommitFault) (filled ending : List TimedCommand) → is_run_cut result ≡ false →
        Feeds g fits holds (outset choose h base k run first) mid_store mid result filled ending →
        Stores g fits holds (outset choose h base k run first) store last (Err (stops.Given (faults.Commit fault))) filled ending
    failed (Ok done) fault filled ending uncut feeds = record {
      given = filled ++ ending;
      rest = [];
      parts = sym (append-nil (filled ++ ending));
      halts = stood_to (filled ++ ending) feeds;
    }
    failed (Err (stops.Given (faults.Refused refusal))) fault filled ending uncut feeds = record {
      given = feeds.given;
      rest = feeds.rest;
      parts = feeds.parts;
      halts = stood_to feeds.given feeds.halts.1;
    }
    failed (Err (stops.Given (faults.Commit other))) fault filled ending uncut feeds = absurd (cc)
    failed (Err stops.Input) fault filled ending uncut feeds =
        record { given = filled; rest = ending; parts = refl; halts = stood_to filled feeds }
    failed (Err stops.Endless) fault filled ending uncut feeds =
        record { given = filled; rest = ending; parts = refl; halts = stood_to filled feeds }

    module _ (same : store.run ≡ mid_store.run) (done : (history : List TimedCommand) (base k : ℕ) →
        Represents g fits holds choose history base k mid_store mid →
        Represents g fits holds choose history base (length history) store last) where
      kept_to : (os : List TimedCommand) → HasGivenAll g fits holds (outset choose h base k run first) os mid_store mid →
          HasKeptAll g fits holds (outset choose h base k run first) os store last
      kept_to os one = record {
        allowed = one.allowed;
        same_run = same ∙ one.same_run;
        hold = done (given_all choose h os) base one.count one.hold;
        stood = stood_to os one;
      }

      pub settled : (result : Result Unit RunFault) (filled ending : List TimedCommand) → is_run_cut result ≡ false →
          Feeds g fits holds (outset choose h base k run first) mid_store mid result filled ending →
          Stores g fits holds (outset choose h base k run first) store last result filled ending
      settled (Ok ended) filled ending uncut feeds = kept_to (filled ++ ending) feeds
      settled (Err (stops.Given (faults.Refused refusal))) filled ending uncut feeds = record {
        given = feeds.given;
        rest = feeds.rest;
        parts = feeds.parts;
        halts = (feeds.halts.0, kept_to feeds.given feeds.halts.1);
      }
      settled (Err (stops.Given (faults.Commit other))) filled ending uncut feeds = absurd (cc)
      settled (Err stops.Input) filled ending uncut feeds = kept_to filled feeds
      settled (Err stops.Endless) filled ending uncut feeds = kept_to filled feeds

  -- it failed before
  pub cut : (h : List TimedCommand) (base k : ℕ) (store : Store M) (first last : D) (result : Result Unit RunFault)
      (filled ending : List TimedCommand) → is_run_cut result ≡ true →
      Feeds g fits holds (outset choose h base k run first) store last result filled ending →
      Stores g fits holds (outset choose h base k run first) store last result filled ending
  cut h base k store first last (Ok done) filled ending is feeds = absurd (cc)
  cut h base k store first last (Err (stops.Given (faults.Refused refusal))) filled ending is feeds = absurd (cc)
  cut h base k store first last (Err (stops.Given (faults.Commit fault))) filled ending is feeds =
      record { given = feeds.given; rest = feeds.rest; parts = feeds.parts; halts = feeds.halts }
  cut h base k store first last (Err stops.Input) filled ending is feeds = absurd (cc)
  cut h base k store first last (Err stops.Endless) filled ending is feeds = absurd (cc)

  -- ---- what store and disk hold behind a run in which the disk did not fail

  pub fed_holds : (h : List TimedCommand) (base k : ℕ) (store : Store M) (first last : D) (result : Result Unit RunFault)
      (filled ending : List TimedCommand) → is_run_cut result ≡ false →
      Feeds g fits holds (outset choose h base k run first) store last result filled ending →
      (now : List TimedCommand) × (count : ℕ) × Represents g fits holds choose now base count store last
  fed_holds h base k store first last (Ok done) filled ending uncut feeds = (given_all choose h (filled ++ ending), feeds.count, feeds.hold)
  fed_holds h base k store first last (Err (stops.Given (faults.Refused refusal))) filled ending uncut feeds =
      (given_all choose h feeds.given, feeds.halts.1.count, feeds.halts.1.hold)
  fed_holds h base k store first last (Err (stops.Given (faults.Commit fault))) filled ending uncut feeds = absurd (cc)
  fed_holds h base k store first last (Err stops.Input) filled ending uncut feeds = (given_all choose h filled, feeds.count, feeds.hold)
  fed_holds h base k store first last (Err stops.Endless) filled ending uncut feeds = (given_all choose h filled, feeds.count, feeds.hold)

pub cut_at : (result : Result Unit RunFault) (fault : CommitFault) → is_run_cut result ≡ false →
    result ≡ Err (stops.Given (faults.Commit fault)) → ⊥
cut_at result fault uncut is = cc (sym uncut ∙ ap is_run_cut is)
