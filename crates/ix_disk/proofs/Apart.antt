-- What holds of one file stays over calls on others.
use Rattle.std.proofs.Common.{◌≡◌, ◌≢◌, ℕ, List, Option, None, Some, ⊎_elim, inl, inr, ◌∙◌, ap, subst, sym}
use Rattle.ix_base.specs.declared.files.File.{File}
use Rattle.ix_base.specs.Told.{Told}
use Rattle.ix_disk.specs.Image.{Image, content, Apart}
use Rattle.ix_disk.specs.Moments.{ImagesStep, Holds, Reads}
use Rattle.ix_disk.specs.declared.disk.Disk.{Ghosts}
use Rattle.ix_disk.proofs.Runs.{seen_before, joined}

-- what is told leaves the other files, where the step does
pub told_apart : (file : File) (step : Image → Image → Type 0) (old new : Option Image) → ((a b : Image) → step a b → Apart file a b) →
    Told step old new → Told (Apart file) old new
told_apart file step None None leaves told = tt
told_apart file step None (Some new) leaves told = absurd told
told_apart file step (Some old) None leaves told = absurd told
told_apart file step (Some old) (Some new) leaves told = leaves old new told

module _ {D : Type 0} (g : Ghosts D) where
  -- each image holds of a file what it held before a run whose step leaves that file
  pub left_holds : (old new : D) (file : File) (step : Image → Image → Type 0) (Q : List ℕ → Type 0)
      → ((a b : Image) → step a b → b file ≡ a file) → ImagesStep g old new step → Holds g old file Q → Holds g new file Q
  left_holds old new file step Q leaves goes holds image left =
      let from = goes.now image left in
      subst Q (sym (ap content (leaves from.0 image from.2))) (holds from.0 from.1)

  -- a read gives of it what it gave
  pub left_reads : (old new : D) (file : File) (step : Image → Image → Type 0) (Q : List ℕ → Type 0)
      → ((a b : Image) → step a b → b file ≡ a file) → Told step (g.seen old) (g.seen new) → Reads g old file Q → Reads g new file Q
  left_reads old new file step Q leaves told reads image is =
      let from = seen_before step (g.seen old) (g.seen new) told image is in
      subst Q (sym (ap content (leaves from.0 image from.2))) (reads from.0 from.1)

  -- the same after calls on one other file, whatever they make of that one
  pub apart_holds : (old new : D) (file other : File) (Q : List ℕ → Type 0) → other ≢ file → ImagesStep g old new (Apart file) →
      Holds g old other Q → Holds g new other Q
  apart_holds old new file other Q ne goes holds = left_holds old new other (Apart file) Q (λ a b apart. apart other ne) goes holds

  pub apart_reads : (old new : D) (file other : File) (Q : List ℕ → Type 0) → other ≢ file → Told (Apart file) (g.seen old) (g.seen new) →
      Reads g old other Q → Reads g new other Q
  apart_reads old new file other Q ne told reads = left_reads old new other (Apart file) Q (λ a b apart. apart other ne) told reads

  -- a call on a file leaves the others: a write, a removal and a run over the file each say so by
  -- `others`
  pub apart : (old new : D) (file : File) (step : Image → Image → Type 0) → ((a b : Image) → step a b → Apart file a b) →
      ImagesStep g old new step → ImagesStep g old new (Apart file)
  apart old new file step leaves goes = record {
    later = goes.later;
    now = λ image left. let from = goes.now image left in (from.0, from.1, leaves from.0 image from.2);
    since = λ t image le left. ⊎_elim (λ past. inl past) (λ from. inr (from.0, from.1, leaves from.0 image from.2))
        (goes.since t image le left);
    keeps = goes.keeps;
  }

  -- such calls, one behind the other
  pub apart_on : (old mid new : D) (file : File) → ImagesStep g old mid (Apart file) → ImagesStep g mid new (Apart file) →
      ImagesStep g old new (Apart file)
  apart_on old mid new file first second =
      joined g old mid new (Apart file) (Apart file) (Apart file) (λ a b p. p) (λ a b c p q. λ other ne. q other ne
      ∙ p other ne) first second
