-- The run of calls that puts a shut gate into a file that has no room for a body.
use Rattle.std.proofs.Common.{◌≡◌, ◌≤◌, ◌∙◌, ℕ, List, [], ◌∷◌, length, Some, Bool, false, inr, subst, sym, ap, arith}
use Rattle.ix_disk.specs.Image.{Image, Torn, MayWrite, Writes, Stays, overwritten, bytes_in}
use Rattle.ix_base.specs.Told.{Told}
use Rattle.ix_disk.specs.Moments.{ImagesStep, InFile, Holds, Reads}
use Rattle.ix_disk.proofs.Runs.{begins, write_first, write_holds, write_reads, stay_on, holds_reads}
use Rattle.ix_disk.specs.declared.disk.Disk.{Ghosts}
use Rattle.ix_log.specs.Log.{blocks, HasBodies, Gated, AtEnd, IsAtEnd}
use Rattle.ix_log.specs.declared.log.Log.{Log}
use Rattle.ix_log.proofs.Bytes.{short_torn, short_written}
use Rattle.ix_log.proofs.OneList.{end_has_bodies}

torn_short : (bodies : List (List ℕ)) (at : ℕ) (a b : List ℕ) → at ≡ length (blocks bodies) → AtEnd false bodies a → Torn at 1 a b →
    HasBodies bodies b
torn_short bodies at a b place short torn =
    let start : at ≡ 0 = place ∙ ap (λ (l : List (List ℕ)). length (blocks l)) short.0 in
    inr (short.0, short_torn a b short.1 (subst (λ (n : ℕ). Torn n 1 a b) start torn))

written_short : (bodies : List (List ℕ)) (at : ℕ) (a : List ℕ) → at ≡ length (blocks bodies) → AtEnd false bodies a →
    Gated bodies (overwritten at (0 ∷ []) a)
written_short bodies at a place short =
    let start : at ≡ 0 = place ∙ ap (λ (l : List (List ℕ)). length (blocks l)) short.0 in
    subst (λ (n : ℕ). Gated bodies (overwritten n (0 ∷ []) a)) (sym start)
    (subst (λ (l : List (List ℕ)). Gated l (overwritten 0 (0 ∷ []) a)) (sym short.0) (short_written a short.1))

module _ {D : Type 0} (g : Ghosts D) (old mid : D) (bodies : List (List ℕ)) (log : Log) (end : IsAtEnd g log old bodies)
    (open_still : log.closed ≡ false) (write : ImagesStep g old mid (MayWrite log.file log.at 1)) where
  short_holds : Holds g old log.file (AtEnd false bodies)
  short_holds = subst (λ (b : Bool). Holds g old log.file (AtEnd b bodies)) open_still end.images

  pub shut_first : ImagesStep g old mid (InFile log.file (HasBodies bodies))
  shut_first = write_first g old mid log.file log.at 1 (AtEnd false bodies) (HasBodies bodies) write short_holds
      (λ a b short torn. torn_short bodies log.at a b end.place short torn)

  shut_holds : Holds g mid log.file (HasBodies bodies)
  shut_holds = write_holds g old mid log.file log.at 1 (AtEnd false bodies) (HasBodies bodies) write short_holds
      (λ a b short torn. torn_short bodies log.at a b end.place short torn)

  pub shut_second : (new : D) → ImagesStep g mid new Stays → ImagesStep g old new (InFile log.file (HasBodies bodies))
  shut_second new stays = stay_on g old mid new log.file (HasBodies bodies) shut_first stays shut_holds

  pub shut_reads : ((image : Image) (disk : D) → g.seen disk ≡ Some image → g.may_leave disk image) →
      Told (Writes log.file log.at (0 ∷ [])) (g.seen old) (g.seen mid) → Reads g mid log.file (Gated bodies)
  shut_reads may_stay sees = write_reads g old mid log.file log.at (0
      ∷ []) (AtEnd false bodies) (Gated bodies) sees (holds_reads g may_stay old log.file (AtEnd false bodies) short_holds)
      (λ a short. written_short bodies log.at a end.place short)

module _ {D : Type 0} (g : Ghosts D) (disk : D) (bodies : List (List ℕ)) (log : Log) (end : IsAtEnd g log disk bodies) where
  -- no call is needed
  pub shut_already : ImagesStep g disk disk (InFile log.file (HasBodies bodies))
  shut_already = begins g disk log.file (HasBodies bodies)
      (λ image left. end_has_bodies log.closed bodies (bytes_in image log.file) (end.images image left))

  -- the gate is the first byte of the file, or its end
  pub shut_room : log.closed ≡ false → ((image : Image) (disk : D) → g.seen disk ≡ Some image → g.may_leave disk image) →
      Reads g disk log.file (λ l. log.at ≤ length l)
  shut_room open_still may_stay image is =
      let short = subst (λ (b : Bool). Holds g disk log.file (AtEnd b bodies)) open_still end.images image (may_stay image disk is) in
      let start : log.at ≡ 0 = end.place ∙ ap (λ (l : List (List ℕ)). length (blocks l)) short.0 in
      omega (arith, start)
