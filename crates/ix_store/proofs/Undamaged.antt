-- A disk that stands for a history is not damaged.
use Rattle.std.proofs.Common.{◌≡◌, ◌<◌, ◌+◌, ◌^◌, ◌⊎◌, ℕ, zero, suc, List, [], ◌∷◌, ◌++◌, length, get_or, refl, sym, ap, ◌∙◌, subst, arith}
use Rattle.std.proofs.Common.{inl, inr, ⊎_elim}
use Rattle.std.specs.Int.{to_be_bytes, w64}
use Rattle.std.proofs.lemmas.List.{length-append, get_or_append_left}
use Rattle.std.proofs.Math.Seq.{get_or-append_seam}
use Rattle.ix_base.specs.declared.files.File.{File}
use Rattle.ix_disk.specs.Image.{Image, bytes_in}
use Rattle.ix_log.specs.Log.{AreShort, HasBodies, IsCut}
use Rattle.ix_log.proofs.OneList.{one_list_of}
use Rattle.ix_manifest.specs.Book.{NamedItems, empty}
use Rattle.ix_manifest.specs.Replaying.{IsBadGate}
use Rattle.ix_manifest.specs.Root.{Taken, roots, current, log_file, IsBadRoot, HasBadNumber}
use Rattle.ix_manifest.proofs.Blocks.{cut_none, next_stands}
use Rattle.ix_manifest.proofs.Replays.{bad_gate_none}
use Rattle.ix_commit.specs.Mounting.{IsBadLog}
use Rattle.ix_commit.specs.Snapshot.{Snapshot, DecodesTo}
use Rattle.ix_store.proofs.Booked.{all_more}

-- ---- the numbers of the root log

roots_length : (k : ℕ) → length (roots k) ≡ k
roots_length zero = refl
roots_length (suc k) = omega (arith, roots_length k, length-append (roots k) (to_be_bytes w64 (k + 2) ∷ []))

roots_short : (k : ℕ) → AreShort (roots k)
roots_short zero = tt
roots_short (suc k) =
    let number = to_be_bytes w64 (k + 2) in
    let size : length number ≡ 8 = refl in
    all_more (λ (body : List ℕ). length body < 2 ^ 32) (roots k) (number ∷ []) (roots_short k) (omega (arith, size), tt)

root_at : (k c : ℕ) → c < k → get_or (roots k) c [] ≡ to_be_bytes w64 (c + 2)
root_at zero c within = absurd (omega (arith, within))
root_at (suc k) c within =
    ⊎_elim
    (λ (less : c < k). get_or_append_left (roots k) (to_be_bytes w64 (k + 2) ∷ []) [] c (omega (arith, less, roots_length k))
    ∙ root_at k c less)
    (λ (same : c ≡ k).
    ap (λ (n : ℕ). get_or (roots (suc k)) n []) (same ∙ sym (roots_length k)) ∙ get_or-append_seam (roots k) (to_be_bytes w64 (k + 2)) [] []
    ∙ ap (λ (n : ℕ). to_be_bytes w64 (n + 2)) (sym same))
    (less_or_last c k within)
  where
    less_or_last : (c k : ℕ) → c < suc k → (c < k) ⊎ (c ≡ k)
    less_or_last zero zero within = inr refl
    less_or_last zero (suc k) within = inl (omega arith)
    less_or_last (suc c) zero within = absurd (omega (arith, within))
    less_or_last (suc c) (suc k) within = ⊎_elim (λ (less : c < k). inl (omega (arith, less))) (λ (same : c ≡ k). inr (ap suc same))
        (less_or_last c k (omega (arith, within)))

-- what stands behind the first of them is the next
next_root : (c k : ℕ) (body : List ℕ) (others : List (List ℕ)) → roots k ≡ roots c ++ body ∷ others → body ≡ to_be_bytes w64 (c + 2)
next_root c k body others is =
    let sizes = ap length is in
    let within : c < k = omega (arith, sizes, roots_length k, roots_length c, length-append (roots c) (body ∷ others)) in
    sym (get_or-append_seam (roots c) body others []) ∙ ap (λ (n : ℕ). get_or (roots c ++ body ∷ others) n []) (roots_length c)
    ∙ ap (λ (l : List (List ℕ)). get_or l c []) (sym is) ∙ root_at k c within

-- a root log with a bad gate is no list of numbers
bad_root_none : (at k : ℕ) (file : List ℕ) → IsBadRoot at file → HasBodies (roots k) file → ⊥
bad_root_none at k file bad has = by bad.bad
  where
    by : IsCut (roots bad.checkpoints) file ⊎ HasBadNumber bad.checkpoints file → ⊥
    by (inl cut) = cut_none (roots bad.checkpoints) (roots k) file (roots_short bad.checkpoints) cut has
    by (inr other) =
        let next = next_stands (roots bad.checkpoints) (roots k) other.body other.rest file other.spelled (roots_short bad.checkpoints)
        other.short has in
        other.refused (next_root bad.checkpoints k other.body next.0 next.1)

-- ---- an image that keeps a snapshot has no bad log

pub keeps_undamaged : (fits : NamedItems → Type 0) (snapshot : Snapshot) (image : Image) (file : File) (at : ℕ) →
    DecodesTo fits snapshot image → IsBadLog fits file at image → ⊥
keeps_undamaged fits snapshot image file at keeps (inl root) =
    bad_root_none at keeps.checkpoints (bytes_in image (log_file 0)) root.1 keeps.in_root
keeps_undamaged fits snapshot image file at keeps (inr log) =
    let lists = one_list_of (roots keeps.checkpoints) (roots log.0) (bytes_in image (log_file 0)) keeps.in_root log.1 in
    let same : log.0 ≡ keeps.checkpoints = omega (arith, ap length lists, roots_length keeps.checkpoints, roots_length log.0) in
    let bad = subst (λ (n : ℕ). IsBadGate (Taken fits (current n)) empty at (bytes_in image (current n))) same log.3 in
    bad_gate_none (Taken fits (current keeps.checkpoints)) empty at (bytes_in image (current keeps.checkpoints)) bad keeps.bodies
    snapshot.book keeps.in_log keeps.replayed
