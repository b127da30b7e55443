-- Commands given one behind the other: all that is known of store, disk and clock, joined at one
-- place.
use Rattle.std.proofs.Common.{◌≡◌, ℤ, Bool, true, false, List, [], ◌∷◌, ◌++◌, map, refl, sym, ap, ◌∙◌, subst, arith, append_assoc}
use Rattle.std.specs.Prelude.{Option, Result, Ok, Err}
use Rattle.std.proofs.lemmas.List.{append-nil, map-append}
use Rattle.std.proofs.lemmas.Bool.{false≢true}
use Rattle.ix_base.specs.Clocks.{Moments, Answered}
use Rattle.ix_base.specs.Told.{Told}
use Rattle.ix_disk.specs.declared.disk.Disk.{Ghosts}
use Rattle.ix_disk.proofs.Runs.{rose_later}
use Rattle.ix_manifest.specs.Book.{NamedItems}
use Rattle.ix_commit.specs.Snapshot.{LogsAtEnd}
use Rattle.ix_commit.specs.declared.fault.CommitFault.TheVariants as commits
use Rattle.ix_commit.proofs.Reading.{anyhow_same, anyhow_through}
use Rattle.ix_model.specs.Given.{Chooser}
use Rattle.ix_model.specs.declared.answers.Refusal.TheVariants as refusals
use Rattle.ix_model.specs.declared.commands.Command.{Command}
use Rattle.ix_model.specs.declared.commands.Command.TheVariants.{Tick}
use Rattle.ix_model.specs.declared.commands.TimedCommand.{TimedCommand}
use Rattle.ix_store.specs.declared.store.Store.{Store}
use Rattle.ix_store.proofs.Booked.{all_more}
use Rattle.ix_run.specs.Giving.{given_all}
use Rattle.ix_run.specs.declared.giving.GiveFault.{GiveFault}
use Rattle.ix_run.specs.declared.giving.GiveFault.TheVariants as faults
use Rattle.ix_run.proofs.Faults.{refused_uncut}
use Rattle.ix_run.proofs.Stored.{gives_on, given_none, halted_none, all_taken}
use Rattle.ix_pass.specs.Giving.{Went, Tried, order_at, kind, change}
use Rattle.ix_watch.specs.Passes.{Asks}
use Rattle.ix_watch.specs.Watching.{command_of}

pub asks_on : (a b : List TimedCommand) (x y z : Option Moments) → Asks a x y → Asks b y z → Asks (a ++ b) x z
asks_on [] b x y z one two = subst (λ (o : Option Moments). Asks b o z) one two
asks_on (o ∷ a) b x y z one two = (one.0, one.1, asks_on a b one.0 y z one.2 two)

module _ {D : Type 0} (d : Ghosts D) {M : Type 0} (is_chooser : Chooser → Type 0) (takes : TimedCommand → Type 0) (fits : NamedItems →
    Type 0) (holds : Chooser → List TimedCommand → M → Type 0)
    (ticks : (moment : ℤ) → takes (record { command = Tick; moment = moment })) where
  -- nothing was given
  pub went_none : (store : Store M) (disk : D) → LogsAtEnd d store.committer disk →
      Went d (kind is_chooser takes fits holds) (Ok tt) [] (change store disk store disk)
  went_none store disk over = record {
    taken = tt;
    given = λ choose h base k chooser taken hold. given_none d fits store.run holds choose h base k store disk refl hold;
    over = λ uncut. over;
    measured = λ uncut measured. measured;
    undamaged = λ file at is. absurd (not_ok is);
    placed = λ file at is. absurd (not_ok is);
    told = anyhow_same (d.seen disk) (d.seen disk) refl;
    later = omega arith;
    cause = λ is. absurd (not_ok is);
  }
    where
      not_ok : {done : Unit} {fault : GiveFault} → (let result : Result Unit GiveFault = Ok done in result ≡ Err fault) → ⊥
      not_ok is = cc

  -- for want of memory one was not given
  pub went_short : (store : Store M) (disk : D) (order : TimedCommand) → takes order → LogsAtEnd d store.committer disk →
      Went d (kind is_chooser takes fits holds) (Err (faults.Refused refusals.NoMemory)) (order ∷ []) (change store disk store disk)
  went_short store disk order own over = record {
    taken = (own, tt);
    given = λ choose h base k chooser taken hold. halted_none d fits store.run holds choose h base k store disk order [] refl hold;
    over = λ uncut. over;
    measured = λ uncut measured. measured;
    undamaged = λ file at is. absurd (refused_uncut (faults.Refused refusals.NoMemory) refusals.NoMemory (commits.Damaged file at) refl is);
    placed = λ file at is. absurd (refused_uncut (faults.Refused refusals.NoMemory) refusals.NoMemory (commits.Damaged file at) refl is);
    told = anyhow_same (d.seen disk) (d.seen disk) refl;
    later = omega arith;
    cause = λ is. absurd (refused_uncut (faults.Refused refusals.NoMemory) refusals.NoMemory commits.Disk refl is);
  }

  -- others were given behind them
  pub went_on : (result : Result Unit GiveFault) (a b : List TimedCommand) (s0 s1 s2 : Store M) (d0 d1 d2 : D) →
      Went d (kind is_chooser takes fits holds) (Ok tt) a (change s0 d0 s1 d1) → Went d (kind is_chooser takes fits holds) result b
      (change s1 d1 s2 d2) →
      Went d (kind is_chooser takes fits holds) result (a ++ b) (change s0 d0 s2 d2)
  went_on result a b s0 s1 s2 d0 d1 d2 one two = record {
    taken = all_more takes a b one.taken two.taken;
    given = λ choose h base k chooser taken hold.
        let first = one.given choose h base k chooser taken hold in
        gives_on d fits s0.run holds choose h a b base k s1 s2 d0 d1 d2 first result
        (two.given choose (given_all choose h a) base first.count chooser (all_taken takes ticks choose h a taken one.taken) first.hold);
    over = two.over;
    measured = λ uncut measured. two.measured uncut (one.measured refl measured);
    undamaged = λ file at is choose h base k chooser taken hold.
        let first = one.given choose h base k chooser taken hold in
        two.undamaged file at is choose (given_all choose h a) base first.count chooser (all_taken takes ticks choose h a taken one.taken)
        first.hold;
    placed = two.placed;
    told = anyhow_through (d.seen d0) (d.seen d1) (d.seen d2) one.told two.told;
    later = omega (arith, one.later, two.later);
    cause = λ is. rose_later (d.faults d0) (d.faults d1) (d.faults d2) one.later (two.cause is);
  }

  -- the same of commands that are tried
  pub tried_on : (all : Bool) (result : Result Unit GiveFault) (a b : List Command) (x y z : Option Moments) (s0 s1 s2 : Store M)
      (d0 d1 d2 : D) →
      Tried true a x y (λ orders. Went d (kind is_chooser takes fits holds) (Ok tt) orders (change s0 d0 s1 d1)) →
      Tried all b y z (λ orders. Went d (kind is_chooser takes fits holds) result orders (change s1 d1 s2 d2)) →
      Tried all (a ++ b) x z (λ orders. Went d (kind is_chooser takes fits holds) result orders (change s0 d0 s2 d2))
  tried_on all result a b x y z s0 s1 s2 d0 d1 d2 one two = record {
    orders = one.orders ++ two.orders;
    rest = two.rest;
    commands_are =
        ap (λ (l : List Command). l ++ b) (one.commands_are ∙ ap (λ (l : List Command). map command_of one.orders ++ l) (one.whole refl)
        ∙ append-nil (map command_of one.orders))
        ∙ ap (λ (l : List Command). map command_of one.orders ++ l) two.commands_are
        ∙ sym (append_assoc (map command_of one.orders) (map command_of two.orders) two.rest)
        ∙ ap (λ (l : List Command). l ++ two.rest) (sym (map-append command_of one.orders two.orders));
    whole = two.whole;
    asked = asks_on one.orders two.orders x y z one.asked two.asked;
    done = went_on result one.orders two.orders s0 s1 s2 d0 d1 d2 one.done two.done;
  }

-- those that were to come behind were not tried
pub tried_short : (all : Bool) (a b : List Command) (x y : Option Moments) (went : List TimedCommand → Type 0) → Tried all a x y went →
    Tried false (a ++ b) x y went
tried_short all a b x y went one = record {
  orders = one.orders;
  rest = one.rest ++ b;
  commands_are = ap (λ (l : List Command). l ++ b) one.commands_are ∙ append_assoc (map command_of one.orders) one.rest b;
  whole = λ e. absurd (false≢true e);
  asked = one.asked;
  done = one.done;
}

-- it is not said that all were
pub tried_some : (all : Bool) (a : List Command) (x y : Option Moments) (went : List TimedCommand → Type 0) → Tried true a x y went →
    Tried all a x y went
tried_some all a x y went one = record {
  orders = one.orders;
  rest = one.rest;
  commands_are = one.commands_are;
  whole = λ e. one.whole refl;
  asked = one.asked;
  done = one.done;
}

-- one command
pub tried_one : (command : Command) (moment : ℤ) (x y : Option Moments) (went : List TimedCommand → Type 0) → Told (Answered moment) x y →
    went (order_at command moment ∷ []) →
    Tried true (command ∷ []) x y went
tried_one command moment x y went told done = record {
  orders = order_at command moment ∷ [];
  rest = [];
  commands_are = refl;
  whole = λ e. refl;
  asked = (y, told, refl);
  done = done;
}

-- none
pub tried_none : (x : Option Moments) (went : List TimedCommand → Type 0) → went [] → Tried true [] x x went
tried_none x went done = record { orders = []; rest = []; commands_are = refl; whole = λ e. refl; asked = refl; done = done }
