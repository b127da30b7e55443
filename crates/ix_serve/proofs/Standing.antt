-- How the images of a store stand for prefixes.
use Rattle.std.proofs.Common.{◌≡◌, ◌≤◌, ◌⊎◌, ℕ, List, length, take, [], Option, None, Some, refl, ap, sym, subst, ◌∙◌, ⊎_elim, arith}
use Rattle.ix_base.specs.Told.{Told}
use Rattle.ix_manifest.specs.Book.{NamedItems, run_of, named}
use Rattle.ix_disk.specs.Image.{Image, Stays, bytes_in}
use Rattle.ix_disk.specs.Moments.{Always, ImagesStep}
use Rattle.ix_disk.specs.declared.disk.Disk.{Ghosts}
use Rattle.ix_disk.proofs.Runs.{always_begins, always_on, always_still, always_weaker}
use Rattle.ix_commit.specs.Snapshot.{Snapshot, KnowsLogLength}
use Rattle.ix_commit.specs.Undo.{HasSameLogs}
use Rattle.ix_commit.specs.declared.committer.Committer.{Committer}
use Rattle.ix_log.specs.Log.{file_of}
use Rattle.ix_log.specs.declared.log.Log.{Log}
use Rattle.ix_model.specs.Given.{Chooser}
use Rattle.ix_model.specs.declared.commands.TimedCommand.{TimedCommand}
use Rattle.ix_store.specs.Holding.{Represents}
use Rattle.ix_store.specs.Written.{RecoversTo, IsOf}
use Rattle.ix_store.specs.declared.store.Store.{Store}
use Rattle.ix_store.proofs.Counted.{take_whole}
use Rattle.ix_store.proofs.Lawful.{held_stands}
use Rattle.ix_serve.specs.Prefixes.{StandsIn}
use Rattle.ix_serve.specs.Serving.{IsTold}

-- a snapshot tells its run
pub same_run : (one other : ℕ) (s a b : Snapshot) → IsOf one s a → IsOf other s b → other ≡ one
same_run one other s a b is was = ap (λ (book : NamedItems). run_of (book (named 2 [] 0))) (sym was.book ∙ is.book)

module _ (fits : NamedItems → Type 0) (run : ℕ) (choose : Chooser) (h : List TimedCommand) (k : ℕ) (within : k ≤ length h) where
  pub of_first : (image : Image) → RecoversTo fits run choose (take k h) image → StandsIn fits run choose h k image
  of_first image is = record { count = k; least = omega arith; most = within; stands = is }

  pub of_all : (image : Image) → RecoversTo fits run choose h image → StandsIn fits run choose h k image
  of_all image is = record {
    count = length h;
    least = within;
    most = omega arith;
    stands = subst (λ (l : List TimedCommand). RecoversTo fits run choose l image) (sym (take_whole h)) is;
  }

  -- what a commit says of the images
  pub committing : {D : Type 0} (g : Ghosts D) (old new : D) →
      Always g old new (λ (image : Image). RecoversTo fits run choose (take k h) image ⊎ RecoversTo fits run choose h image) →
      Always g old new (StandsIn fits run choose h k)
  committing g old new always = always_weaker g old new (λ (image : Image). RecoversTo fits run choose (take k h) image
      ⊎ RecoversTo fits run choose h image) (StandsIn fits run choose h k)
      (λ image. ⊎_elim (of_first image) (of_all image)) always

-- a call that leaves the disk alone
pub standing : {D : Type 0} (g : Ghosts D) {M : Type 0} (fits : NamedItems → Type 0) (holds : Chooser → List TimedCommand → M →
    Type 0) (choose : Chooser) (h : List TimedCommand) (base k : ℕ) (store : Store M) (disk : D) →
    Represents g fits holds choose h base k store disk → Always g disk disk (StandsIn fits store.run choose h k)
standing g fits holds choose h base k store disk hold = always_begins g disk (StandsIn fits store.run choose h k)
    (λ image left. of_first fits store.run choose h k hold.staged.within image
    (held_stands g fits holds choose h base k store disk hold image left))

-- calls behind, which change nothing
pub standing_on : {D : Type 0} (g : Ghosts D) (P : Image → Type 0) (old mid new : D) → Always g old mid P → ImagesStep g mid new Stays →
    Always g old new P
standing_on g P old mid new first goes = always_on g old mid new P first (always_still g mid new P goes first.now)

some_seen : (step : Image → Image → Type 0) (old new : Option Image) → Told step old new → (image : Image) × (old ≡ Some image) →
    (image : Image) × (new ≡ Some image)
some_seen step None None told is = let none : None ≡ Some is.0 = is.1 in absurd cc
some_seen step None (Some now) told is = absurd told
some_seen step (Some before) None told is = absurd told
some_seen step (Some before) (Some now) told is = (now, refl)

-- a disk that tells what it reads goes on telling
pub tells_on : {D : Type 0} (g : Ghosts D) (step : Image → Image → Type 0) (old new : D) → Told step (g.seen old) (g.seen new) →
    IsTold g old → IsTold g new
tells_on g step old new told = some_seen step (g.seen old) (g.seen new) told

-- the committer knows how long the log is, whatever is staged
pub measured_same : {D : Type 0} (g : Ghosts D) (before now : Committer) (disk : D) → HasSameLogs before now → now.bytes ≡ before.bytes →
    KnowsLogLength g before disk → KnowsLogLength g now disk
measured_same g before now disk logs bytes measured image seen =
    bytes ∙ measured image seen ∙ ap (λ (log : Log). length (bytes_in image (file_of log))) (sym logs.log)
