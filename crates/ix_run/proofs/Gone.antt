-- Images that stand for prefixes of a history stand for prefixes of a longer one.
use Rattle.std.proofs.Common.{◌≡◌, ◌≤◌, ℕ, zero, suc, false, List, [], ◌∷◌, ◌++◌, length, take, drop, refl, sym, ap, ◌∙◌, subst, arith}
use Rattle.std.proofs.Common.{◌⊎◌, inl, inr}
use Rattle.ix_disk.proofs.Runs.{always_begins, always_on, always_weaker}
use Rattle.ix_disk.specs.Image.{Image}
use Rattle.ix_disk.specs.Moments.{Always}
use Rattle.ix_disk.specs.declared.disk.Disk.{Ghosts}
use Rattle.ix_manifest.specs.Book.{NamedItems}
use Rattle.ix_commit.specs.Mounting.{StandsFor}
use Rattle.ix_model.specs.Given.{Chooser}
use Rattle.ix_model.specs.declared.commands.TimedCommand.{TimedCommand}
use Rattle.ix_model.specs.Snap.{snapshot_of}
use Rattle.ix_commit.specs.Undo.{HasSameLogs}
use Rattle.ix_model.specs.declared.answers.Accepted.{Accepted}
use Rattle.ix_store.specs.Counting.{is_due}
use Rattle.ix_store.specs.Holding.{Represents, IsAccepted, holding}
use Rattle.ix_store.specs.Making.{with_order}
use Rattle.ix_store.specs.Written.{RecoversTo, RecoversToPrefix}
use Rattle.ix_store.specs.declared.store.Store.{Store}
use Rattle.ix_store.proofs.Counted.{take_more, take_whole}
use Rattle.ix_store.proofs.Lawful as lawful
use Rattle.ix_store.proofs.Lawful.{held_stands, held_then, stands_before}
use Rattle.ix_run.specs.Running.{AlwaysRecoverable, HasAdvanced, HasSettled, IsGiven, outset}

pub none_more : (h : List TimedCommand) → h ++ [] ≡ h
none_more [] = refl
none_more (o ∷ h) = ap (λ (l : List TimedCommand). o ∷ l) (none_more h)

-- all of them are dropped
none_left : (h : List TimedCommand) (n : ℕ) → length h ≡ n → drop n (h ++ []) ≡ []
none_left [] zero is = refl
none_left [] (suc n) is = refl
none_left (o ∷ h) zero is = absurd (omega (arith, is))
none_left (o ∷ h) (suc n) is = none_left h n (omega (arith, is))

length_more : (a b : List TimedCommand) → length a ≤ length (a ++ b)
length_more [] b = omega arith
length_more (o ∷ a) b = omega (arith, length_more a b)

-- what stands for a run and a prefix stands for as many commands of the history, and for an earlier
-- run
pub stands_from : (fits : NamedItems → Type 0) (least run : ℕ) (choose : Chooser) (h : List TimedCommand) (k n : ℕ) (image : Image) →
    least ≤ run → k ≤ n → n ≤ length h → RecoversTo fits run choose (take n h) image → RecoversToPrefix fits least choose h k image
stands_from fits least run choose h k n image earlier fewer most stands =
    stands_before fits least run choose h k k image earlier (omega arith) (lawful.stands_from fits run choose h k n image fewer most stands)

-- a longer history, and fewer that must be there
pub longer : (fits : NamedItems → Type 0) (run : ℕ) (choose : Chooser) (h more : List TimedCommand) (k n : ℕ) (image : Image) → n ≤ k →
    RecoversToPrefix fits run choose h k image → RecoversToPrefix fits run choose (h ++ more) n image
longer fits run choose h more k n image fewer stands = record {
  which = stands.which;
  least = omega (arith, fewer, stands.least);
  most = omega (arith, stands.most, length_more h more);
  kept = stands.kept;
  later = stands.later;
  stands = subst (λ (some : List TimedCommand). StandsFor stands.kept (snapshot_of choose some))
      (sym (take_more stands.which h more stands.most)) stands.stands;
  keeps = stands.keeps;
}

module _ {D : Type 0} (g : Ghosts D) {M : Type 0} (fits : NamedItems → Type 0) (run : ℕ) (holds : Chooser → List TimedCommand → M →
    Type 0) (choose : Chooser) where
  pub stood_longer : (h more : List TimedCommand) (k n : ℕ) (before disk : D) → n ≤ k →
      AlwaysRecoverable g fits run choose h k before disk → AlwaysRecoverable g fits run choose (h ++ more) n before disk
  stood_longer h more k n before disk fewer stood = always_weaker g before disk _ _ (λ image. longer fits run choose h more k n image fewer)
      stood

  pub stood_on : (h : List TimedCommand) (k : ℕ) (first mid last : D) → AlwaysRecoverable g fits run choose h k first mid →
      AlwaysRecoverable g fits run choose h k mid last → AlwaysRecoverable g fits run choose h k first last
  stood_on h k first mid last = always_on g first mid last (RecoversToPrefix fits run choose h k)

  -- what is held has stood at this moment
  pub stood_here : (h : List TimedCommand) (base k n : ℕ) (store : Store M) (disk : D) → store.run ≡ run → n ≤ k →
      Represents g fits holds choose h base k store disk → AlwaysRecoverable g fits run choose h n disk disk
  stood_here h base k n store disk is fewer hold = always_begins g disk (RecoversToPrefix fits run choose h n) (λ image snapshot_of.
      stands_from fits run store.run choose h n k image (omega (arith, is)) fewer hold.staged.within
      (held_stands g fits holds choose h base k store disk hold image snapshot_of))

  -- nothing is done, and nothing changes
  pub gone_none : (h : List TimedCommand) (base k : ℕ) (store : Store M) (disk : D) → store.run ≡ run →
      Represents g fits holds choose h base k store disk → HasAdvanced g fits holds (outset choose h base k run disk) [] store disk
  gone_none h base k store disk is hold = record {
    count = k;
    kept = omega arith;
    same_run = is;
    hold = subst (λ (some : List TimedCommand). Represents g fits holds choose some base k store disk) (sym (none_more h)) hold;
    stood = subst (λ (some : List TimedCommand). AlwaysRecoverable g fits run choose some k disk disk) (sym (none_more h))
        (stood_here h base k k store disk is (omega arith) hold);
  }

  -- a commit stands for what was committed, or for all
  pub stood_either : (h : List TimedCommand) (other k : ℕ) (before disk : D) → run ≤ other → k ≤ length h →
      Always g before disk (λ (image : Image). RecoversTo fits other choose (take k h) image ⊎ RecoversTo fits other choose h image) →
      AlwaysRecoverable g fits run choose h k before disk
  stood_either h other k before disk later within always = always_weaker g before disk _ _ (λ image. either image) always where
    either : (image : Image) → RecoversTo fits other choose (take k h) image ⊎ RecoversTo fits other choose h image →
        RecoversToPrefix fits run choose h k image
    either image (inl stands) = stands_from fits run other choose h k k image later (omega arith) within stands
    either image (inr stands) = stands_from fits run other choose h k (length h) image later within (omega arith)
        (subst (λ (some : List TimedCommand). RecoversTo fits other choose some image) (sym (take_whole h)) stands)

  -- what is not committed is not due: it was not before, or nothing is left
  pub settled_none : (h : List TimedCommand) (base k : ℕ) (store : Store M) (disk : D) → store.run ≡ run →
      Represents g fits holds choose h base k store disk → is_due (drop k h) ≡ false →
      HasSettled g fits holds (outset choose h base k run disk) [] store disk
  unfolding gone_none
  settled_none h base k store disk is hold rest = record {
    gone = gone_none h base k store disk is hold;
    not_due = ap (λ (some : List TimedCommand). is_due (drop k some)) (none_more h) ∙ rest;
  }

  -- a commit of all, and then a checkpoint
  pub stood_short : (h : List TimedCommand) (one two k : ℕ) (before mid disk : D) → run ≤ one → run ≤ two → k ≤ length h →
      Always g before mid (λ (image : Image). RecoversTo fits one choose (take k h) image ⊎ RecoversTo fits one choose h image) →
      Always g mid disk (RecoversTo fits two choose h) → AlwaysRecoverable g fits run choose h k before disk
  stood_short h one two k before mid disk first second within always short =
      stood_on h k before mid disk (stood_either h one k before mid first within always)
      (always_weaker g mid disk _ _ (λ image. all image) short) where
        all : (image : Image) → RecoversTo fits two choose h image → RecoversToPrefix fits run choose h k image
        all image stands = stands_from fits run two choose h k (length h) image second within (omega arith)
            (subst (λ (some : List TimedCommand). RecoversTo fits two choose some image) (sym (take_whole h)) stands)

  pub settled_short : (h : List TimedCommand) (one two base k : ℕ) (store : Store M) (before mid disk : D) → store.run ≡ run → run ≤ one →
      run ≤ two → k ≤ length h → Represents g fits holds choose h base (length h) store disk →
      Always g before mid (λ (image : Image). RecoversTo fits one choose (take k h) image ⊎ RecoversTo fits one choose h image) →
      Always g mid disk (RecoversTo fits two choose h) →
      HasSettled g fits holds (outset choose h base k run before) [] store disk
  settled_short h one two base k store before mid disk is first second within hold always short = record {
    gone = record {
      count = length h;
      kept = within;
      same_run = is;
      hold = subst (λ (some : List TimedCommand). Represents g fits holds choose some base (length h) store disk) (sym (none_more h)) hold;
      stood = subst (λ (some : List TimedCommand). AlwaysRecoverable g fits run choose some k before disk) (sym (none_more h))
          (stood_short h one two k before mid disk first second within always short);
    };
    not_due = ap (λ (some : List TimedCommand). is_due some) (none_left h (length h) refl);
  }

-- an accepted command, of whose answer the disk is no part
module _ {D : Type 0} (g : Ghosts D) {M : Type 0} (fits : NamedItems → Type 0) (holds : Chooser → List TimedCommand → M →
    Type 0) (choose : Chooser) where
  pub given : (h : List TimedCommand) (base k : ℕ) (order : TimedCommand) (before mid store : Store M) (first last : D)
      (answer : Accepted) → mid.run ≡ before.run → (hold : Represents g fits holds choose h base k before first) →
      HasSameLogs before.committer mid.committer →
      IsAccepted fits holds (holding choose h base k) order before mid hold.old answer →
      (Represents g fits holds choose (with_order choose h order) base k mid first →
      HasSettled g fits holds (outset choose (with_order choose h order) base k mid.run first) [] store last) →
      IsGiven g fits holds (outset choose h base k before.run first) order before.drawn answer store last
  given h base k order before mid store first last answer same hold logs is then =
      let two = subst (λ (run : ℕ). HasSettled g fits holds (outset choose (with_order choose h order) base k run first) [] store last) same
      (then (held_then g fits holds choose h (with_order choose h order) base k before mid first hold logs is.staged)) in record {
        allowed = is.allowed;
        answers = is.answers;
        gone = record {
          count = two.gone.count;
          kept = two.gone.kept;
          same_run = two.gone.same_run;
          hold = subst (λ (some : List TimedCommand). Represents g fits holds choose some base two.gone.count store last)
              (none_more (with_order choose h order)) two.gone.hold;
          stood = subst (λ (some : List TimedCommand). AlwaysRecoverable g fits before.run choose some k first last)
              (none_more (with_order choose h order)) two.gone.stood;
        };
        not_due = subst (λ (some : List TimedCommand). is_due (drop two.gone.count some) ≡ false) (none_more (with_order choose h order))
            two.not_due;
      }

  pub given_stood : (h : List TimedCommand) (base k : ℕ) (order : TimedCommand) (before mid : Store M) (first last : D)
      (answer : Accepted) → mid.run ≡ before.run → (hold : Represents g fits holds choose h base k before first) →
      HasSameLogs before.committer mid.committer →
      IsAccepted fits holds (holding choose h base k) order before mid hold.old answer →
      (Represents g fits holds choose (with_order choose h order) base k mid first →
      AlwaysRecoverable g fits mid.run choose (with_order choose h order) k first last) →
      AlwaysRecoverable g fits before.run choose (with_order choose h order) k first last
  given_stood h base k order before mid first last answer same hold logs is then =
      subst (λ (run : ℕ). AlwaysRecoverable g fits run choose (with_order choose h order) k first last) same
      (then (held_then g fits holds choose h (with_order choose h order) base k before mid first hold logs is.staged))
