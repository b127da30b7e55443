-- A store in small, from what the committer holds.
use Rattle.std.proofs.Common.{◌≡◌, ◌≤◌, ◌⊎◌, ℕ, List, length, take, refl, ap, subst, sym, ◌∙◌, inl, inr, ⊎_elim, arith}
use Rattle.std.proofs.lemmas.List.{take_all, take-take, length-take-le}
use Rattle.ix_disk.specs.Image.{Image}
use Rattle.ix_disk.specs.Moments.{Always}
use Rattle.ix_disk.specs.declared.disk.Disk.{Ghosts}
use Rattle.ix_disk.proofs.Runs.{always_weaker}
use Rattle.ix_manifest.specs.Book.{NamedItems, run_in}
use Rattle.ix_commit.specs.Snapshot.{Snapshot, DecodesTo, KeepsEither, Held, IsLike}
use Rattle.ix_commit.specs.Mounting.{IsMountedAt}
use Rattle.tests_crash.specs.History.{Stands, Holds, HoldsPrefix, leaves}
use Rattle.tests_crash.specs.declared.small.Small.{Small}

module _ {D : Type 0} (g : Ghosts D) (fits : NamedItems → Type 0) (snap : List ℕ → Snapshot) (h : List ℕ) where
  -- the images of a commit
  pub stands_either : (old new : D) (store : Small) (k : ℕ) (holds : Holds g fits store old snap h k) →
      Always g old new (KeepsEither fits holds.old holds.new)
      → Always g old new (λ image. Stands fits snap store.run (take k h) image ⊎ Stands fits snap store.run h image)
  stands_either old new store k holds run = always_weaker g old new (KeepsEither fits holds.old holds.new)
      (λ image. Stands fits snap store.run (take k h) image ⊎ Stands fits snap store.run h image)
      (λ image either. ⊎_elim
      (λ (keeps : DecodesTo fits holds.old image). inl (record {
        kept = holds.old;
        keeps = keeps;
        like = holds.old_like;
        runs = holds.old_run;
      }))
      (λ (keeps : DecodesTo fits holds.new image). inr (record {
        kept = holds.new;
        keeps = keeps;
        like = holds.new_like;
        runs = holds.new_run;
      }))
      either) run

  -- all of it is committed
  pub holds_all : (after : Small) (disk : D) (now : Snapshot) → Held g fits after.committer disk now now → IsLike now (snap h) →
      run_in now.book ≡ after.run → Holds g fits after disk snap h (length h)
  holds_all after disk now held like run = record {
    within = omega arith;
    old = now;
    new = now;
    held = held;
    old_like = subst (λ (l : List ℕ). IsLike now (snap l)) (sym (take_all (length h) h (omega arith))) like;
    new_like = like;
    old_run = run;
    new_run = run;
  }

  -- a prefix was mounted
  pub holds_prefix : (store : Small) (disk : D) (book : NamedItems) (k : ℕ) (image : Image) →
      IsMountedAt g fits store.committer disk book (leaves snap h) k (length h) image → store.run ≡ run_in book →
      HoldsPrefix g fits store disk snap h k
  holds_prefix store disk book k image at run =
      let n = at.which in
      let same : take n (take n h) ≡ take n h = take-take n n h (omega arith) in
      let runs : run_in at.now.book ≡ store.run = ap run_in (sym at.made) ∙ sym run in
      record {
        n = n;
        least = at.least;
        most = at.most;
        holds = record {
          within = omega (arith, length-take-le n h at.most);
          old = at.now;
          new = at.now;
          held = at.held;
          old_like = subst (λ (l : List ℕ). IsLike at.now (snap l)) (sym same) at.like;
          new_like = at.like;
          old_run = runs;
          new_run = runs;
        };
      }
