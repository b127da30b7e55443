-- A commit with nothing staged, and the question behind a commit how long the log is.
use Rattle.std.proofs.Common.{◌≡◌, ℕ, zero, suc, ◌+◌, ◌<◌, ◌≤◌, List, [], ◌∷◌, length, Option, refl, ap, subst, sym, ◌∙◌, ⊎_elim, inl, inr}
use Rattle.std.proofs.Common.{arith}
use Rattle.std.specs.Prelude.{Contains, All}
use Rattle.std.specs.List.{AllByRecursion}
use Rattle.std.proofs.lemmas.List.Elements.{All-nil}
use Rattle.ix_base.specs.declared.files.File.{File}
use Rattle.ix_disk.specs.Image.{Image, bytes_in, Stays}
use Rattle.ix_disk.specs.Moments.{ImagesStep, Always}
use Rattle.ix_disk.specs.declared.disk.Disk.{Ghosts}
use Rattle.ix_disk.proofs.Runs.{always_on, always_still, always_begins, joined, nowhere}
use Rattle.ix_log.specs.Log.{IsAtEnd, file_of}
use Rattle.ix_log.proofs.Elsewhere.{at_end_stays}
use Rattle.ix_manifest.specs.Book.{NamedItems, empty, replay, Replays}
use Rattle.ix_manifest.specs.Root.{Taken, roots, current, log_file}
use Rattle.ix_manifest.specs.Slots.{items_of}
use Rattle.ix_manifest.specs.declared.staged_item.StagedItem.{StagedItem}
use Rattle.ix_commit.specs.Contents.{Filling, filling, HasFilling, HoldsFilling, Spares, Anyhow}
use Rattle.ix_commit.specs.Parts.{AreParts, files_of}
use Rattle.ix_commit.specs.Copies.{after_copies}
use Rattle.ix_commit.specs.Snapshot.{Snapshot, KeepsEither, AreFree, Held, Stages, NothingStaged, LogsAtEnd}
use Rattle.ix_commit.specs.Undo.{HasSameLogs}
use Rattle.ix_commit.specs.declared.file_copy.FileCopy.{FileCopy}
use Rattle.ix_commit.specs.declared.staged_append.StagedAppend.{StagedAppend}
use Rattle.ix_commit.specs.declared.committer.Committer.{Committer}
use Rattle.ix_commit.proofs.Settling.{settled_all, anyhow_on, loosely}
use Rattle.ix_commit.proofs.Holding.{nothing_staged, new_apart, filled_new, held_keeps}
use Rattle.ix_commit.proofs.Beginning.{held_more, held_spared, over_same}

module _ {D : Type 0} (g : Ghosts D) (fits : NamedItems → Type 0) where
  -- with nothing staged the disk keeps the present snapshot already
  pub idle_held : (committer : Committer) (disk : D) (old new : Snapshot) → NothingStaged committer → Held g fits committer disk old new →
      Held g fits committer disk new new
  idle_held committer disk old new idle held = record {
    usable = held.usable;
    committed = record {
      checkpoints = held.committed.checkpoints;
      number = held.committed.number;
      root_file = held.committed.root_file;
      root = held.committed.root;
      file = held.committed.file;
      bodies = held.committed.bodies;
      end = held.committed.end;
      replayed = subst (Replays (Taken fits (current held.committed.checkpoints)) held.committed.bodies empty) (sym same_book)
          held.committed.replayed;
      contents = λ image left. filled_new committer old new held.stages image (grown_there image left);
      apart = new_apart committer old new held.stages held.committed.apart;
      free = subst (λ (f : File). AreFree f new) held.committed.file held.free;
    };
    stages = nothing_staged committer new idle.0 idle.1.0 idle.1.1;
    fit = λ some. absurd (omega (arith, some, ap length idle.1.1));
    free = held.free;
  }
    where
      same_book : new.book ≡ old.book
      same_book = held.stages.items ∙ ap (λ (slots : List StagedItem). replay (items_of slots) old.book) idle.1.1

      none_staged : AreParts (filling old.contents) held.stages.grown []
      none_staged = subst (AreParts (filling old.contents) held.stages.grown) idle.0 held.stages.parts

      grown_held : HoldsFilling g disk held.stages.grown
      grown_held = settled_all g (file_of committer.log) (filling old.contents) held.stages.grown
          (ap (λ (f : File). f.area) held.committed.file) disk [] 0 (omega arith) none_staged held.committed.contents (All-nil _)

      grown_there : (image : Image) → g.may_leave disk image → HasFilling (after_copies committer.copies held.stages.grown) image
      grown_there image left = subst (λ (copies : List FileCopy). HasFilling (after_copies copies held.stages.grown) image) (sym idle.1.0)
          (grown_held image left)

  pub idle_images : (committer : Committer) (disk : D) (old new : Snapshot) → Held g fits committer disk old new →
      Always g disk disk (KeepsEither fits old new)
  idle_images committer disk old new held = always_begins g disk (KeepsEither fits old new)
      (λ image left. inl (held_keeps g fits committer disk old new held image left))

  -- a question changes no image
  pub asked_images : (first mid last : D) (old new : Snapshot) → Always g first mid (KeepsEither fits old new) →
      ImagesStep g mid last Stays → Always g first last (KeepsEither fits old new)
  asked_images first mid last old new run asked = always_on g first mid last (KeepsEither fits old new) run
      (always_still g mid last (KeepsEither fits old new) asked run.now)

  pub asked_comes : (first mid last : D) → ImagesStep g first mid Anyhow → ImagesStep g mid last Stays → ImagesStep g first last Anyhow
  asked_comes first mid last run asked = anyhow_on g first mid last run (loosely g mid last Stays asked)

  asked_spares : (log : File) (bytes : Filling) (mid last : D) → ImagesStep g mid last Stays → ImagesStep g mid last (Spares log bytes)
  asked_spares log bytes mid last asked = joined g mid last last Stays Stays (Spares log bytes) (λ a b same. spares a b same)
      (λ a b c same more. spares a c (more ∙ same)) asked (nowhere g last)
    where
      spares : (a b : Image) → b ≡ a → Spares log bytes a b
      spares a b same = record {
        root_stays = ap (λ (i : Image). i (log_file 0)) same;
        log_stays = ap (λ (i : Image). i log) same;
        keeps = λ had. subst (HasFilling bytes) (sym same) had;
      }

  -- and keeps what is held
  pub asked_held : (committer after : Committer) (mid last : D) (s : Snapshot) → HasSameLogs committer after → after.parts ≡ [] →
      after.copies ≡ [] → after.slots ≡ [] → ImagesStep g mid last Stays → Held g fits committer mid s s → Held g fits after last s s
  asked_held committer after mid last s same no_parts no_copies no_slots asked held =
      held_more g fits committer after last s s same (held_spared g fits committer mid last s held
      (asked_spares (file_of committer.log) (filling s.contents) mid last asked))
      (nothing_staged after s no_parts no_copies no_slots) (λ some. absurd (omega (arith, some, ap length no_slots))) held.free

  pub asked_over : (committer after : Committer) (mid last : D) → HasSameLogs committer after → ImagesStep g mid last Stays →
      LogsAtEnd g committer mid → LogsAtEnd g after last
  asked_over committer after mid last same asked over = over_same g fits committer after last same (record {
    checkpoints = over.checkpoints;
    counted = over.counted;
    root_file = over.root_file;
    file = over.file;
    root_end = at_end_stays g mid last committer.root (roots over.checkpoints) Stays
        (λ a b is. ap (λ (i : Image). i (file_of committer.root)) is)
        asked over.root_end;
    bodies = over.bodies;
    end = at_end_stays g mid last committer.log over.bodies Stays (λ a b is. ap (λ (i : Image). i (file_of committer.log)) is) asked
        over.end;
    measured = over.measured;
    none = over.none;
  })

nil_of : {A : Type 0} (xs : List A) → length xs ≡ 0 → xs ≡ []
nil_of [] is = refl
nil_of (x ∷ xs) is = absurd (omega (arith, is))

-- nothing is staged where there is no part, copy or item
pub idle_of : (committer : Committer) → (0 < length committer.parts + length committer.copies + length committer.slots → ⊥) →
    NothingStaged committer
idle_of committer none =
    let none_at_all : length committer.parts + length committer.copies + length committer.slots ≡ 0 =
    zero_of (length committer.parts + length committer.copies + length committer.slots) none in (
      nil_of committer.parts (omega (arith, none_at_all)),
      (
        nil_of committer.copies (omega (arith, none_at_all)),
        nil_of committer.slots (omega (arith, none_at_all)),
      ),
    )
  where
    zero_of : (n : ℕ) → (0 < n → ⊥) → n ≡ 0
    zero_of zero never = refl
    zero_of (suc n) never = absurd (never (omega arith))

pub not_idle : (committer : Committer) → 0 < length committer.parts + length committer.copies + length committer.slots →
    NothingStaged committer → ⊥
not_idle committer some idle = omega (arith, some, ap length idle.0, ap length idle.1.0, ap length idle.1.1)
