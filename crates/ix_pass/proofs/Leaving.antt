-- What of the commands that were tried is left behind a commit.
use Rattle.std.proofs.Common.{◌≡◌, ℕ, true, false, List, [], length, sym, ◌∙◌, subst}
use Rattle.std.specs.Prelude.{Result, Ok, Err}
use Rattle.std.proofs.lemmas.Bool.{true≢false, false≢true}
use Rattle.std.proofs.lemmas.List.{append-nil}
use Rattle.ix_disk.specs.declared.disk.Disk.{Ghosts}
use Rattle.ix_manifest.specs.Book.{NamedItems}
use Rattle.ix_commit.specs.declared.fault.CommitFault.{CommitFault}
use Rattle.ix_model.specs.Given.{Chooser}
use Rattle.ix_model.specs.declared.commands.TimedCommand.{TimedCommand}
use Rattle.ix_store.specs.Holding.{Represents}
use Rattle.ix_store.specs.declared.store.Store.{Store}
use Rattle.ix_run.specs.Giving.{given_all, HasGivenAll, HasKeptAll}
use Rattle.ix_run.specs.Running.{AlwaysRecoverable, outset}
use Rattle.ix_run.specs.Storing.{Gives, is_cut}
use Rattle.ix_run.specs.declared.giving.GiveFault.{GiveFault}
use Rattle.ix_run.specs.declared.giving.GiveFault.TheVariants as faults
use Rattle.ix_run.proofs.Gone.{stood_on}
use Rattle.ix_run.proofs.Given.{fewer}
use Rattle.ix_pass.specs.Passing.{Keeps}

module _ {D : Type 0} (d : Ghosts D) {M : Type 0} (fits : NamedItems → Type 0) (run : ℕ) (holds : Chooser → List TimedCommand → M →
    Type 0) (choose : Chooser) where
  module _ (h : List TimedCommand) (base k : ℕ) (mid_store store : Store M) (first mid last : D)
      (stood : (history : List TimedCommand) (base k : ℕ) → Represents d fits holds choose history base k mid_store mid →
      AlwaysRecoverable d fits mid_store.run choose history k mid last) where
    stood_to : (os : List TimedCommand) → HasGivenAll d fits holds (outset choose h base k run first) os mid_store mid →
        AlwaysRecoverable d fits run choose (given_all choose h os) k first last
    stood_to os one = stood_on d fits run holds choose (given_all choose h os) k first mid last one.stood
        (fewer d fits run holds choose (given_all choose h os) one.count k mid last one.kept
        (subst (λ (run : ℕ). AlwaysRecoverable d fits run choose (given_all choose h os) one.count mid last) one.same_run
        (stood (given_all choose h os) base one.count one.hold)))

    -- the disk fails at the commit
    pub failed : (result : Result Unit GiveFault) (fault : CommitFault) (orders : List TimedCommand) → is_cut result ≡ false →
        Gives d fits holds (outset choose h base k run first) mid_store mid result orders →
        Keeps d fits holds (outset choose h base k run first) store last (Err (faults.Commit fault)) orders
    failed (Ok done) fault orders uncut gives = record {
      given = orders;
      rest = [];
      parts = sym (append-nil orders);
      halts = stood_to orders gives;
    }
    failed (Err (faults.Refused refusal)) fault orders uncut gives =
        record { given = gives.given; rest = gives.rest; parts = gives.parts; halts = stood_to gives.given gives.halts.1 }
    failed (Err (faults.Commit other)) fault orders uncut gives = absurd (true≢false uncut)

    module _ (same : store.run ≡ mid_store.run) (done : (history : List TimedCommand) (base k : ℕ) →
        Represents d fits holds choose history base k mid_store mid →
        Represents d fits holds choose history base (length history) store last) where
      kept_to : (os : List TimedCommand) → HasGivenAll d fits holds (outset choose h base k run first) os mid_store mid →
          HasKeptAll d fits holds (outset choose h base k run first) os store last
      kept_to os one = record {
        allowed = one.allowed;
        same_run = same ∙ one.same_run;
        hold = done (given_all choose h os) base one.count one.hold;
        stood = stood_to os one;
      }

      -- all that was given is committed
      pub settled : (result : Result Unit GiveFault) (orders : List TimedCommand) → is_cut result ≡ false →
          Gives d fits holds (outset choose h base k run first) mid_store mid result orders →
          Keeps d fits holds (outset choose h base k run first) store last result orders
      settled (Ok ended) orders uncut gives = kept_to orders gives
      settled (Err (faults.Refused refusal)) orders uncut gives = record {
        given = gives.given;
        rest = gives.rest;
        parts = gives.parts;
        halts = (gives.halts.0, kept_to gives.given gives.halts.1);
      }
      settled (Err (faults.Commit other)) orders uncut gives = absurd (true≢false uncut)

  -- the disk failed before
  pub cut : (h : List TimedCommand) (base k : ℕ) (store : Store M) (first last : D) (result : Result Unit GiveFault)
      (orders : List TimedCommand) → is_cut result ≡ true → Gives d fits holds (outset choose h base k run first) store last result orders →
      Keeps d fits holds (outset choose h base k run first) store last result orders
  cut h base k store first last (Ok done) orders is gives = absurd (false≢true is)
  cut h base k store first last (Err (faults.Refused refusal)) orders is gives = absurd (false≢true is)
  cut h base k store first last (Err (faults.Commit fault)) orders is gives =
      record { given = gives.given; rest = gives.rest; parts = gives.parts; halts = gives.halts }

  -- what store and disk hold where it did not
  pub gave_holds : (h : List TimedCommand) (base k : ℕ) (store : Store M) (first last : D) (result : Result Unit GiveFault)
      (orders : List TimedCommand) → is_cut result ≡ false → Gives d fits holds (outset choose h base k run first) store last result orders
      →
      (now : List TimedCommand) × (count : ℕ) × Represents d fits holds choose now base count store last
  gave_holds h base k store first last (Ok done) orders uncut gives = (given_all choose h orders, gives.count, gives.hold)
  gave_holds h base k store first last (Err (faults.Refused refusal)) orders uncut gives =
      (given_all choose h gives.given, gives.halts.1.count, gives.halts.1.hold)
  gave_holds h base k store first last (Err (faults.Commit fault)) orders uncut gives = absurd (true≢false uncut)
