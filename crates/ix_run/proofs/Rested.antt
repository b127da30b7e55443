-- How long a log is, as the disk reads, and what a checkpoint makes of it.
use Rattle.std.proofs.Common.{◌≡◌, ◌+◌, ℕ, List, [], ◌∷◌, length, sym, ap, ◌∙◌, subst, arith}
use Rattle.std.specs.Prelude.{Some}
use Rattle.ix_base.specs.declared.files.File.{File}
use Rattle.ix_disk.specs.Image.{Image, bytes_in}
use Rattle.ix_disk.specs.declared.disk.Disk.{Ghosts}
use Rattle.ix_log.specs.Log.{HasBodies, file_of}
use Rattle.ix_log.specs.declared.log.Log.{Log}
use Rattle.ix_log.proofs.OneList.{one_list_of, end_has_bodies}
use Rattle.ix_manifest.specs.Root.{roots, current, log_file}
use Rattle.ix_commit.specs.Shortening.{HasOneBody, IsLongLog, IsShortest}
use Rattle.ix_commit.specs.Snapshot.{LogsAtEnd, NothingStaged, KnowsLogLength, IsLong, log_of}
use Rattle.ix_commit.specs.Undo.{IsSame}
use Rattle.ix_commit.specs.declared.committer.Committer.{Committer}
use Rattle.ix_commit.proofs.Beginning.{roots_one}
use Rattle.ix_commit.proofs.Shorter.{tells_long}
use Rattle.ix_run.specs.Resting.{HasLongLog, ReadsShort}

-- one body, and 6 bytes more than it has, are no long log
not_long : (file : List ℕ) → HasOneBody file → IsLongLog file → ⊥
not_long file one long = let twice = long.twice (one.body ∷ []) one.bodies in omega (arith, twice, one.size, long.most)

module _ {D : Type 0} (g : Ghosts D) (may_stay : (image : Image) (disk : D) → g.seen disk ≡ Some image → g.may_leave disk image) where
  -- the current log of an image is the committer's
  current_is : (committer : Committer) (disk : D) (image : Image) → (over : LogsAtEnd g committer disk) → g.seen disk ≡ Some image →
      (n : ℕ) →
      HasBodies (roots n) (bytes_in image (log_file 0)) → current n ≡ log_of committer
  current_is committer disk image over told n in_root =
      let k = over.checkpoints in
      let ours : HasBodies (roots k) (bytes_in image (log_file 0)) =
      subst (λ (f : File). HasBodies (roots k) (bytes_in image f)) over.root_file
      (end_has_bodies committer.root.closed (roots k) (bytes_in image committer.root.file)
      (over.root_end.images image (may_stay image disk told))) in
      let same : n ≡ k = roots_one n k (one_list_of (roots n) (roots k) (bytes_in image (log_file 0)) in_root ours) in
      let counted : n + 1 ≡ committer.number = omega (arith, same, over.counted) in
      ap log_file counted ∙ sym over.file

  long_is : (committer : Committer) (disk : D) (image : Image) → LogsAtEnd g committer disk → g.seen disk ≡ Some image → HasLongLog image →
      IsLongLog (bytes_in image (log_of committer))
  long_is committer disk image over told long =
      subst (λ (f : File). IsLongLog (bytes_in image f)) (current_is committer disk image over told long.checkpoints long.in_root) long.long

  -- behind a checkpoint
  pub short_made : (committer : Committer) (disk : D) → LogsAtEnd g committer disk → IsShortest g committer disk → ReadsShort g disk
  short_made committer disk over shortest image told long =
      not_long (bytes_in image (log_of committer)) (shortest image told) (long_is committer disk image over told long)

  -- where none is wanted
  pub short_known : (committer : Committer) (disk : D) → LogsAtEnd g committer disk → KnowsLogLength g committer disk →
      (IsLong committer.bytes committer.first → ⊥) → ReadsShort g disk
  short_known committer disk over measured not image told long =
      not ((tells_long g may_stay committer disk image over measured told).1 (long_is committer disk image over told long))

module _ {D : Type 0} (g : Ghosts D) where
  pub measured_same : (a b : Committer) (disk : D) → b.log ≡ a.log → b.bytes ≡ a.bytes → KnowsLogLength g a disk → KnowsLogLength g b disk
  measured_same a b disk log bytes measured image told =
      bytes ∙ measured image told ∙ ap (λ (l : Log). length (bytes_in image (file_of l))) (sym log)

  -- what is refused leaves a committer at rest
  pub idle_same : (a b : Committer) → IsSame a b → NothingStaged a → NothingStaged b
  idle_same a b same idle = (same.parts ∙ idle.0, (same.copies ∙ idle.1.0, same.slots ∙ idle.1.1))
