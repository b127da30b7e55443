-- Commands given one after the other, and what a disk stood for meanwhile.
use Rattle.std.proofs.Common.{◌≡◌, ◌≤◌, ℕ, false, List, [], ◌∷◌, ◌++◌, length, refl, sym, ap, ◌∙◌, subst, arith}
use Rattle.ix_disk.specs.declared.disk.Disk.{Ghosts}
use Rattle.ix_disk.proofs.Runs.{always_weaker}
use Rattle.ix_disk.specs.Image.{Image}
use Rattle.ix_manifest.specs.Book.{NamedItems}
use Rattle.ix_model.specs.Bounds.{IsAllowed}
use Rattle.ix_model.specs.Given.{Chooser}
use Rattle.ix_model.specs.Judged.{adds}
use Rattle.ix_model.specs.Step.{state_after}
use Rattle.ix_model.specs.declared.answers.Accepted.{Accepted}
use Rattle.ix_model.specs.declared.commands.TimedCommand.{TimedCommand}
use Rattle.ix_store.specs.Holding.{Represents}
use Rattle.ix_store.specs.Making.{with_order}
use Rattle.ix_store.specs.declared.store.Store.{Store}
use Rattle.ix_run.specs.Giving.{given_all, AreAllowed, HasKeptAll, IsKept}
use Rattle.ix_store.specs.Written.{RecoversToPrefix}
use Rattle.ix_run.specs.Running.{AlwaysRecoverable, IsGiven, Outset, StandsFrom, outset}
use Rattle.ix_run.proofs.Gone.{stood_longer, stood_on, stood_here}

-- more commands behind others
pub given_join : (choose : Chooser) (h a b : List TimedCommand) → given_all choose h (a ++ b) ≡ given_all choose (given_all choose h a) b
given_join choose h [] b = refl
given_join choose h (o ∷ a) b = given_join choose (with_order choose h o) a b

-- all were allowed where both parts were
pub allowed_join : (choose : Chooser) (base : ℕ) (h a b : List TimedCommand) → AreAllowed choose base h a →
    AreAllowed choose base (given_all choose h a) b → AreAllowed choose base h (a ++ b)
allowed_join choose base h [] b one two = two
allowed_join choose base h (o ∷ a) b one two = (one.0, allowed_join choose base (with_order choose h o) a b one.1 two)

-- what they add stands behind the history
abbrev pub more_of : Chooser → List TimedCommand → List TimedCommand → List TimedCommand
more_of choose h [] = []
more_of choose h (o ∷ os) = adds (state_after choose h) o ++ more_of choose (with_order choose h o) os

more_join : (a b c : List TimedCommand) → a ++ (b ++ c) ≡ (a ++ b) ++ c
more_join [] b c = refl
more_join (o ∷ a) b c = ap (λ (l : List TimedCommand). o ∷ l) (more_join a b c)

none_behind : (h : List TimedCommand) → h ≡ h ++ []
none_behind [] = refl
none_behind (o ∷ h) = ap (λ (l : List TimedCommand). o ∷ l) (none_behind h)

pub given_more : (choose : Chooser) (h os : List TimedCommand) → given_all choose h os ≡ h ++ more_of choose h os
given_more choose h [] = none_behind h
given_more choose h (o ∷ os) = given_more choose (with_order choose h o) os
    ∙ sym (more_join h (adds (state_after choose h) o) (more_of choose (with_order choose h o) os))

module _ {D : Type 0} (g : Ghosts D) {M : Type 0} (fits : NamedItems → Type 0) (run : ℕ) (holds : Chooser → List TimedCommand → M →
    Type 0) (choose : Chooser) where
  -- images that stood for a history have stood for it with further commands
  pub stood_given : (h os : List TimedCommand) (k n : ℕ) (before disk : D) → n ≤ k → AlwaysRecoverable g fits run choose h k before disk →
      AlwaysRecoverable g fits run choose (given_all choose h os) n before disk
  stood_given h os k n before disk fewer stood =
      subst (λ (some : List TimedCommand). AlwaysRecoverable g fits run choose some n before disk) (sym (given_more choose h os))
      (stood_longer g fits run holds choose h (more_of choose h os) k n before disk fewer stood)

  pub fewer : (h : List TimedCommand) (k n : ℕ) (before disk : D) → n ≤ k → AlwaysRecoverable g fits run choose h k before disk →
      AlwaysRecoverable g fits run choose h n before disk
  fewer h k n before disk less stood = always_weaker g before disk _ _ (λ image. one image) stood where
    one : (image : Image) → RecoversToPrefix fits run choose h k image → RecoversToPrefix fits run choose h n image
    one image stands = record {
      which = stands.which;
      least = omega (arith, less, stands.least);
      most = stands.most;
      kept = stands.kept;
      later = stands.later;
      stands = stands.stands;
      keeps = stands.keeps;
    }

-- where all are committed every image has all
pub kept_here : {D : Type 0} (g : Ghosts D) {M : Type 0} (fits : NamedItems → Type 0) (holds : Chooser → List TimedCommand → M → Type 0)
    (s : Outset D) (orders : List TimedCommand) (store : Store M) (disk : D) → HasKeptAll g fits holds s orders store disk →
    StandsFrom g fits s.run s.choose (given_all s.choose s.history orders) (length (given_all s.choose s.history orders)) disk disk
kept_here g fits holds s orders store disk kept =
    let now = given_all s.choose s.history orders in
    let here = stood_here g fits s.run holds s.choose now s.base (length now) (length now) store disk kept.same_run (omega arith)
    kept.hold in
    record { at_first = here.now; since = here }

module _ {D : Type 0} (g : Ghosts D) {M : Type 0} (fits : NamedItems → Type 0) (holds : Chooser → List TimedCommand → M →
    Type 0) (choose : Chooser) where
  pub stood_last : (h : List TimedCommand) (base k : ℕ) (order : TimedCommand) (before mid : Store M) (first half last : D)
      (answer : Accepted) → (one : IsGiven g fits holds (outset choose h base k before.run first) order before.drawn answer mid half) →
      AlwaysRecoverable g fits mid.run choose (with_order choose h order) one.gone.count half last →
      AlwaysRecoverable g fits before.run choose (with_order choose h order) k first last
  stood_last h base k order before mid first half last answer one stood =
      stood_on g fits before.run holds choose (with_order choose h order) k first half last one.gone.stood
      (fewer g fits before.run holds choose (with_order choose h order) one.gone.count k half last one.gone.kept
      (subst (λ (run : ℕ). AlwaysRecoverable g fits run choose (with_order choose h order) one.gone.count half last) one.gone.same_run
      stood))

  -- a command, and then a commit of all
  pub kept_last : (h : List TimedCommand) (base k : ℕ) (order : TimedCommand) (before mid store : Store M) (first half last : D)
      (answer : Accepted) → Represents g fits holds choose h base k before first →
      (one : IsGiven g fits holds (outset choose h base k before.run first) order before.drawn answer mid half) →
      Represents g fits holds choose (with_order choose h order) base (length (with_order choose h order)) store last →
      store.run ≡ mid.run → AlwaysRecoverable g fits mid.run choose (with_order choose h order) one.gone.count half last →
      IsKept g fits holds (outset choose h base k before.run first) order before.drawn answer store last
  kept_last h base k order before mid store first half last answer old one hold same stood = record {
    allowed = one.allowed;
    answers = one.answers;
    all = record {
      allowed = (
        subst (λ (drawn : ℕ). IsAllowed choose false drawn (state_after choose h) order) old.staged.counted.drawn_are one.allowed,
        tt,
      );
      same_run = same ∙ one.gone.same_run;
      hold = hold;
      stood = stood_last h base k order before mid first half last answer one stood;
    };
  }
