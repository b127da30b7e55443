-- The root log is read number by number.
use Rattle.std.proofs.Common.{◌≡◌, ◌≢◌, ◌+◌, ℕ, suc, List, [], ◌∷◌, ◌++◌, length, Bool, true, false, Some, refl, subst, sym, ap, ◌∙◌, inr}
use Rattle.std.proofs.Common.{arith}
use Rattle.std.specs.Int.{to_be_bytes, w64}
use Rattle.std.specs.Prelude.{not, bytes_eq}
use Rattle.std.proofs.lemmas.Slice.Eq.{bytes_eq-Decides}
use native.Mathlib.Numerals.{unary_clauses}
use Rattle.ix_disk.specs.Image.{Image, bytes_in}
use Rattle.ix_disk.specs.declared.disk.Disk.{Ghosts}
use Rattle.ix_log.specs.Log.{IsReading, blocks, file_of}
use Rattle.ix_log.specs.declared.log.Log.{Log}
use Rattle.ix_manifest.specs.Root.{roots, IsBadRoot}
use Rattle.ix_manifest.proofs.Replays.{short_last}

one_more : (k : ℕ) → k + 1 ≡ suc k
one_more k = simp unary_clauses refl

pub roots_more : (k : ℕ) → roots (k + 1) ≡ roots k ++ to_be_bytes w64 (k + 2) ∷ []
roots_more k = ap roots (one_more k)

-- a comparison of bytes tells
pub told_same : (test : Bool) (a b : List ℕ) → test ≡ not (bytes_eq a b) → test ≡ false → a ≡ b
told_same test a b is told = (bytes_eq-Decides a b).0 (go (bytes_eq a b) (sym is ∙ told))
  where
    go : (same : Bool) → not same ≡ false → same ≡ true
    go true e = refl
    go false e = absurd cc

pub told_other : (test : Bool) (a b : List ℕ) → test ≡ not (bytes_eq a b) → test ≡ true → a ≢ b
told_other test a b is told same =
    let yes : bytes_eq a b ≡ true = (bytes_eq-Decides a b).1 same in
    let none : true ≡ false = sym told ∙ is ∙ ap not yes in
    absurd cc

-- a further number was read
pub reading_more : {D : Type 0} (g : Ghosts D) (log : Log) (disk : D) (k number : ℕ) (out : List ℕ) → number ≡ k + 1 →
    out ≡ to_be_bytes w64 (number + 1) → IsReading g log disk (roots k ++ out ∷ []) → IsReading g log disk (roots (k + 1))
reading_more g log disk k number out at is reading =
    subst (IsReading g log disk) (ap (λ (b : List ℕ). roots k ++ b ∷ []) (is ∙ ap (λ (n : ℕ). to_be_bytes w64 n) (omega (arith, at)))
    ∙ sym (roots_more k)) reading

pub bad_number : {D : Type 0} (g : Ghosts D) (log : Log) (disk : D) (image : Image) → g.seen disk ≡ Some image →
    (k number at : ℕ) (out : List ℕ) → number ≡ k + 1 → out ≢ to_be_bytes w64 (number + 1) → at ≡ length (blocks (roots k))
    → IsReading g log disk (roots k ++ out ∷ []) → IsBadRoot at (bytes_in image (file_of log))
bad_number g log disk image told k number at out is ne place reading =
    let on = reading.reads image told in
    record {
      checkpoints = k;
      place = place;
      bad = inr (record {
        body = out;
        rest = on.rest;
        spelled = on.spelled;
        short = short_last (roots k) out on.fit;
        refused = λ same. ne (same ∙ ap (λ (n : ℕ). to_be_bytes w64 n) (omega (arith, is)));
      });
    }
