-- The run of calls that opens a gate.
use Rattle.std.proofs.Common.{◌≡◌, ◌≤◌, ℕ, List, [], ◌∷◌, ◌++◌, length, Some, arith}
use Rattle.ix_disk.specs.Image.{Image, MayWrite, Writes, Stays, bytes_in}
use Rattle.ix_base.specs.Told.{Told}
use Rattle.ix_disk.specs.Moments.{ImagesStep, InFile, Holds, Reads}
use Rattle.ix_disk.proofs.Runs.{write_first, write_holds, write_reads, stay_on, holds_reads}
use Rattle.ix_disk.specs.declared.disk.Disk.{Ghosts}
use Rattle.ix_log.specs.Log.{Gated, Whole, WithOrWithout, IsWhole}
use Rattle.ix_log.specs.declared.log.Log.{Log}
use Rattle.ix_log.proofs.Bytes.{gate_torn, gate_open, whole_long}

module _ {D : Type 0} (g : Ghosts D) (old mid : D) (bodies : List (List ℕ)) (body : List ℕ) (log : Log)
    (whole : IsWhole g log old bodies body) (write : ImagesStep g old mid (MayWrite log.file log.at 1)) where
  pub open_first : ImagesStep g old mid (InFile log.file (WithOrWithout bodies body))
  open_first = write_first g old mid log.file log.at 1 (Whole bodies body) (WithOrWithout bodies body) write whole.images
      (λ a b w torn. gate_torn bodies body a w b log.at whole.place torn)

  pub open_holds : Holds g mid log.file (WithOrWithout bodies body)
  open_holds = write_holds g old mid log.file log.at 1 (Whole bodies body) (WithOrWithout bodies body) write whole.images
      (λ a b w torn. gate_torn bodies body a w b log.at whole.place torn)

  pub open_second : (new : D) → ImagesStep g mid new Stays → ImagesStep g old new (InFile log.file (WithOrWithout bodies body))
  open_second new stays = stay_on g old mid new log.file (WithOrWithout bodies body) open_first stays open_holds

  pub open_reads : ((image : Image) (disk : D) → g.seen disk ≡ Some image → g.may_leave disk image) →
      Told (Writes log.file log.at (1 ∷ [])) (g.seen old) (g.seen mid) → Reads g mid log.file (Gated (bodies ++ body ∷ []))
  open_reads may_stay sees = write_reads g old mid log.file log.at (1
      ∷ []) (Whole bodies body) (Gated (bodies ++ body ∷ [])) sees (holds_reads g may_stay old log.file (Whole bodies body) whole.images)
      (λ a w. gate_open bodies body a w log.at whole.place)

-- the gate is within the file
pub open_room : {D : Type 0} (g : Ghosts D) (disk : D) (bodies : List (List ℕ)) (body : List ℕ) (log : Log) → IsWhole g log disk bodies body
    → ((image : Image) (disk : D) → g.seen disk ≡ Some image → g.may_leave disk image) → Reads g disk log.file (λ l. log.at ≤ length l)
open_room g disk bodies body log whole may_stay image is =
    omega (arith, whole.place, whole_long bodies body (bytes_in image log.file) (whole.images image (may_stay image disk is)))
