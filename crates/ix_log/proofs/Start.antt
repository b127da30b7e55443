-- The run of calls that makes a log ready for a body.
use Rattle.std.proofs.Common.{◌≡◌, ◌<◌, ◌≤◌, ◌∙◌, ℕ, ◌+◌, List, [], ◌∷◌, length, Some, Bool, true, false, inl, inr, sym, subst, refl, arith}
use Rattle.std.proofs.lemmas.Bool.{true≢false}
use Rattle.ix_base.specs.declared.files.File.{File}
use Rattle.ix_disk.specs.Image.{Image, MayWrite, Writes, bytes_in}
use Rattle.ix_base.specs.Told.{Told}
use Rattle.ix_disk.specs.Moments.{ImagesStep, InFile, Holds, Reads}
use Rattle.ix_disk.proofs.Runs.{write_on, write_holds, write_reads, holds_reads}
use Rattle.ix_disk.specs.declared.disk.Disk.{Ghosts}
use Rattle.ix_log.specs.Log.{blocks, HasBodies, Gated, AtEnd, Staged, IsAtEnd, IsPutting, IsReady, HasNoMore}
use Rattle.ix_log.specs.declared.log.Log.{Log}
use Rattle.ix_log.proofs.Bytes.{gate_stays, gated_long, stage}
use Rattle.ix_log.proofs.Ends.{end_idle, end_moves}

module _ {D : Type 0} (g : Ghosts D) (old mid new : D) (file : File) (bodies : List (List ℕ)) (log : Log) (same : log.file ≡ file)
    (shut : IsAtEnd g log mid bodies) (closed : log.closed ≡ true) (first : ImagesStep g old mid (InFile file (HasBodies bodies)))
    (write : ImagesStep g mid new (MayWrite log.file (log.at + 1) 4)) where
  pub start_gated : Holds g mid log.file (Gated bodies)
  start_gated = subst (λ (b : Bool). Holds g mid log.file (AtEnd b bodies)) closed shut.images

  behind : length (blocks bodies) < log.at + 1
  behind = omega (arith, shut.place)

  pub start_run : ImagesStep g old new (InFile file (HasBodies bodies))
  start_run =
      let holds = subst (λ (f : File). Holds g mid f (Gated bodies)) same start_gated in
      let to_file = subst (λ (f : File). ImagesStep g mid new (MayWrite f (log.at + 1) 4)) same write in
      write_on g mid new file (log.at + 1) 4 (Gated bodies) (HasBodies bodies) to_file holds
      (λ a b gated torn. inl (gate_stays bodies a b (log.at + 1) 4 behind gated torn)) old first

  pub start_holds : Holds g new log.file (Gated bodies)
  start_holds = write_holds g mid new log.file (log.at + 1) 4 (Gated bodies) (Gated bodies) write start_gated
      (λ a b gated torn. gate_stays bodies a b (log.at + 1) 4 behind gated torn)

  pub start_reads : ((image : Image) (disk : D) → g.seen disk ≡ Some image → g.may_leave disk image) →
      Told (Writes log.file (log.at + 1) (0 ∷ 0 ∷ 0 ∷ 0 ∷ [])) (g.seen mid) (g.seen new) → Reads g new log.file (Staged bodies [])
  start_reads may_stay sees = write_reads g mid new log.file (log.at + 1) (0 ∷ 0 ∷ 0 ∷ 0
      ∷ []) (Gated bodies) (Staged bodies []) sees (holds_reads g may_stay mid log.file (Gated bodies) start_gated)
      (λ a gated. stage bodies a (0 ∷ 0 ∷ 0 ∷ 0 ∷ []) (log.at + 1) (omega (arith, shut.place)) refl gated)

-- the gate is within the file
pub start_room : {D : Type 0} (g : Ghosts D) (disk : D) (bodies : List (List ℕ)) (log : Log) → IsAtEnd g log disk bodies → log.closed ≡ true
    → ((image : Image) (disk : D) → g.seen disk ≡ Some image → g.may_leave disk image) → Reads g disk log.file (λ l. log.at + 1 ≤ length l)
start_room g disk bodies log shut closed may_stay image is =
    let gated = subst (λ (b : Bool). Holds g disk log.file (AtEnd b bodies)) closed shut.images image (may_stay image disk is) in
    omega (arith, shut.place, gated_long bodies (bytes_in image log.file) gated)

-- four bytes at the end make the file longer
pub start_ends : {D : Type 0} (g : Ghosts D) (mid new : D) (bodies : List (List ℕ)) (log : Log) → IsAtEnd g log mid bodies →
    Told (Writes log.file (log.at + 1) (0 ∷ 0 ∷ 0 ∷ 0 ∷ [])) (g.seen mid) (g.seen new)
    → HasNoMore g log mid → Reads g new log.file (λ l. length l ≡ log.at + 5 + log.len)
start_ends g mid new bodies log shut sees had image told =
    omega (
      arith,
      shut.none_put,
      end_moves g mid new log.file (log.at + 1) (0 ∷ 0 ∷ 0 ∷ 0
          ∷ []) sees (log.at + 1) (λ before is. had before is ∙ end_idle log shut.idle) refl image told,
    )

module _ {D : Type 0} (g : Ghosts D) (log : Log) (disk : D) (bodies : List (List ℕ)) (body : List ℕ) where
  -- no byte of a further body was put yet
  pub idle_end : IsReady g log disk bodies body → log.begun ≡ false → IsAtEnd g log disk bodies × (body ≡ [])
  idle_end (inl end) idle = end
  idle_end (inr putting) idle = absurd (true≢false (sym putting.begun ∙ idle))

  -- some were
  pub begun_on : IsReady g log disk bodies body → log.begun ≡ true → IsPutting g log disk bodies body
  begun_on (inl end) begun = absurd (true≢false (sym begun ∙ end.0.idle))
  begun_on (inr putting) begun = putting
