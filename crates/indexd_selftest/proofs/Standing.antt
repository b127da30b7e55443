-- What a disk holds behind all commands, and what is mounted there.
use Rattle.std.proofs.Common.{◌≡◌, ℕ, false, List, [], ◌∷◌, length, take, sym, subst, arith, None}
use Rattle.std.specs.List.{AllByRecursion}
use Rattle.std.proofs.lemmas.List.{take_all}
use Rattle.ix_commit.specs.Reads.{HasNoRun}
use Rattle.ix_disk.specs.Image.{Image}
use Rattle.ix_disk.specs.declared.disk.Disk.{Ghosts}
use Rattle.ix_manifest.specs.Book.{NamedItems}
use Rattle.ix_model.specs.Bounds.{IsFull}
use Rattle.ix_model.specs.Given.{Chooser}
use Rattle.ix_model.specs.Judged.{judged}
use Rattle.ix_model.specs.Step.{state_after}
use Rattle.ix_model.specs.declared.answers.Refusal.{Refusal}
use Rattle.ix_model.specs.declared.answers.Refusal.TheVariants as refusals
use Rattle.ix_model.specs.declared.commands.Command.TheVariants.{Configure}
use Rattle.ix_model.specs.declared.commands.Config.{Config}
use Rattle.ix_model.specs.declared.commands.TimedCommand.{TimedCommand}
use Rattle.ix_run.specs.Giving.{given_all}
use Rattle.ix_run.specs.Running.{IsNotGiven, outset}
use Rattle.ix_run.specs.declared.giving.GiveFault.{GiveFault}
use Rattle.ix_run.specs.declared.giving.GiveFault.TheVariants as gives
use Rattle.ix_run.proofs.Given.{given_join}
use Rattle.ix_store.proofs.Lawful.{held_stands, stands_from}
use Rattle.ix_store.specs.Holding.{Represents, IsMounted}
use Rattle.ix_store.specs.Making.{with_order}
use Rattle.ix_store.specs.Written.{RecoversTo, RecoversToPrefix}
use Rattle.ix_store.specs.declared.store.Store.{Store}
use Rattle.indexd_selftest.specs.Full.{HasNoRoom, SecondHasNoRun}
use Rattle.indexd_selftest.specs.Given.{AllRecover, RepresentsAll}
use Rattle.indexd_selftest.specs.History.{orders, sent, sent_all, turn}
use Rattle.indexd_selftest.proofs.Refused.{refused_full}

module _ {D : Type 0} (d : Ghosts D) {M : Type 0} (takes : TimedCommand → Type 0) (fits : NamedItems → Type 0) (holds : Chooser →
    List TimedCommand → M → Type 0) (choose : Chooser) where
  -- what is held, all of it committed, is in every image
  pub all_stand : (history : List TimedCommand) (base run : ℕ) (store : Store M) (disk : D) → store.run ≡ run →
      AllByRecursion takes history → Represents d fits holds choose history base (length history) store disk →
      AllRecover d takes fits run choose history disk
  all_stand history base run store disk same taken hold = record {
    taken = taken;
    stand = λ image may.
        let P : List TimedCommand → Type 0 = λ (h : List TimedCommand). RecoversTo fits store.run choose h image in
        let Q : ℕ → Type 0 = λ (r : ℕ). RecoversTo fits r choose history image in
        subst Q same (subst P (take_all (length history) history (omega arith))
        (held_stands d fits holds choose history base (length history) store disk hold image may));
  }

  -- so it is mounted whole
  pub may_mount : (history : List TimedCommand) (disk : D) → AllRecover d takes fits 1 choose history disk → (image : Image) →
      d.may_leave disk image → RecoversToPrefix fits 1 choose history (length history) image
  may_mount history disk all image may =
      let P : List TimedCommand → Type 0 = λ (h : List TimedCommand). RecoversTo fits 1 choose h image in
      stands_from fits 1 choose history (length history) (length history) image (omega arith) (omega arith)
      (subst P (sym (take_all (length history) history (omega arith))) (all.stand image may))

  pub mounted_whole : (history : List TimedCommand) (image : Image) (store : Store M) (disk : D) →
      (is : IsMounted d fits holds choose history (length history) image store disk) → take is.count history ≡ history
  mounted_whole history image store disk is = take_all is.count history is.least

  -- what is held may be given
  pub as_all : (history : List TimedCommand) (base kept : ℕ) (store : Store M) (disk : D) →
      Represents d fits holds choose history base kept store disk → AllByRecursion takes history →
      RepresentsAll d takes fits holds choose history base store disk
  as_all history base kept store disk hold taken = record { kept = kept; hold = hold; taken = taken }

  -- nothing is mounted of nothing
  pub mounted_none : (image : Image) (store : Store M) (disk : D) → (is : IsMounted d fits holds choose [] 0 image store disk) →
      RepresentsAll d takes fits holds choose [] is.count store disk
  mounted_none image store disk is =
      let P : List TimedCommand → Type 0 = λ (h : List TimedCommand). Represents d fits holds choose h is.count is.count store disk in
      record { kept = is.count; hold = subst P (take_all is.count [] (omega arith)) is.hold; taken = tt }

  -- all commands, one part behind the other
  pub whole : (config : Config) (blocks : List (List ℕ)) (run : ℕ) (disk : D) → run ≡ 1 →
      AllRecover d takes fits run choose
      (with_order choose (given_all choose (with_order choose [] (sent (Configure config))) (sent_all blocks)) turn) disk →
      AllRecover d takes fits 1 choose (given_all choose [] (orders config blocks)) disk
  whole config blocks run disk first is =
      let P : List TimedCommand → Type 0 = λ (h : List TimedCommand). AllRecover d takes fits 1 choose h disk in
      let Q : ℕ → Type 0 = λ (r : ℕ). AllRecover d takes fits r choose
      (with_order choose (given_all choose (with_order choose [] (sent (Configure config))) (sent_all blocks)) turn) disk in
      subst P (sym (given_join choose (with_order choose [] (sent (Configure config))) (sent_all blocks) (turn ∷ []))) (subst Q first is)

  -- a command that was not given has no room, where it is refused for no want of memory
  pub not_given_full : (history : List TimedCommand) (base : ℕ) (old store : Store M) (before disk : D) (order : TimedCommand)
      (fault : GiveFault) (refusal : Refusal) → (all : RepresentsAll d takes fits holds choose history base old before) →
      judged (state_after choose history) order.command ≡ None → fault ≡ gives.Refused refusal → (refusal ≡ refusals.NoMemory → ⊥) →
      IsNotGiven d fits holds (outset choose history base all.kept old.run before) order old.drawn fault store disk →
      HasNoRoom choose base history order
  not_given_full history base old store before disk order fault refusal all none same other not =
      let P : GiveFault → Type 0 =
      λ (f : GiveFault). IsNotGiven d fits holds (outset choose history base all.kept old.run before) order old.drawn f store disk in
      let Q : ℕ → Type 0 = λ (drawn : ℕ). IsFull choose false drawn (state_after choose history) order in
      let refused : P (gives.Refused refusal) = subst P same not in
      subst Q all.hold.staged.counted.drawn_are
      (refused_full choose old.drawn (state_after choose history) order none refusal other refused.0)

  -- no further run was begun behind all commands
  pub no_run : (history : List TimedCommand) (disk : D) (image : Image) → d.may_leave disk image →
      AllRecover d takes fits 1 choose history disk → HasNoRun fits image → SecondHasNoRun fits choose history
  no_run history disk image may all none = record { image = image; recovers = all.stand image may; none = none }
