-- The numbers of the root log.
use Rattle.std.proofs.Common.{◌≡◌, ◌≤◌, ℕ, zero, suc, ◌+◌, List, [], ◌∷◌, ◌++◌, length, subst, sym, inl, inr, ⊎_elim, arith}
use Rattle.std.specs.Int.{to_be_bytes, w64}
use Rattle.ix_disk.specs.Moments.{ImagesStep, InFile}
use Rattle.ix_disk.specs.declared.disk.Disk.{Ghosts}
use Rattle.ix_disk.proofs.Runs.{run_on, weaker}
use Rattle.ix_log.specs.Log.{HasBodies, WithOrWithout, IsAtEnd, blocks}
use Rattle.ix_log.specs.declared.log.Log.{Log}
use Rattle.ix_log.proofs.Blocks.{length-blocks_push}
use Rattle.ix_base.specs.declared.files.File.{File}
use Rattle.ix_manifest.specs.Root.{roots}
use Rattle.ix_manifest.proofs.Numbers.{roots_more}
use Rattle.ix_manifest.specs.Whole.{HasNumbers}

-- there are no more numbers than bytes
pub roots_long : (k : ℕ) → k ≤ length (blocks (roots k))
roots_long zero = omega arith
roots_long (suc k) = omega (arith, roots_long k, length-blocks_push (roots k) (to_be_bytes w64 (k + 2)))

pub roots_end : {D : Type 0} (g : Ghosts D) (log : Log) (disk : D) (k : ℕ) → IsAtEnd g log disk (roots k ++ to_be_bytes w64 (k + 2) ∷ []) →
    IsAtEnd g log disk (roots (k + 1))
roots_end g log disk k end = subst (IsAtEnd g log disk) (sym (roots_more k)) end

module _ {D : Type 0} (g : Ghosts D) (old mid new : D) (file : File) (k : ℕ) where
  pub numbers_none : ImagesStep g old mid (InFile file (HasBodies (roots k))) → ImagesStep g old mid (InFile file (HasNumbers k))
  numbers_none = weaker g old mid file (HasBodies (roots k)) (HasNumbers k) (λ l has. inl has)

  pub numbers_more : ImagesStep g old mid (InFile file (HasBodies (roots k))) →
      ImagesStep g mid new (InFile file (WithOrWithout (roots k) (to_be_bytes w64 (k + 2)))) →
      ImagesStep g old new (InFile file (HasNumbers k))
  numbers_more first second = run_on g old mid new file (HasNumbers k) (numbers_none first)
      (weaker g mid new file (WithOrWithout (roots k) (to_be_bytes w64 (k + 2))) (HasNumbers k)
      (λ l. ⊎_elim (λ has. inl has) (λ gated. inr (subst (λ (b : List (List ℕ)). HasBodies b l) (sym (roots_more k)) (inl gated)))) second)
