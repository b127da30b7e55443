-- What reading one body more gives.
use Rattle.std.proofs.Common.{◌≡◌, ◌^◌, ◌≤◌, ◌<◌, ◌+◌, ◌-◌, ℕ, List, [], ◌∷◌, ◌++◌, length, take, drop, Bool, false, Some, Result, Err}
use Rattle.std.proofs.Common.{refl, sym, subst, ◌∙◌, ap, arith, append_assoc, length-append, length-take, length-drop, take-append-drop}
use Rattle.std.proofs.lemmas.List.{take_at, drop_at, drop-drop}
use Rattle.std.specs.Int.{to_be_bytes, from_be_bytes, w32}
use Rattle.std.proofs.lemmas.Nat.{from_be_bytes-to_be_bytes_4}
use Rattle.ix_base.specs.declared.files.File.{File}
use Rattle.ix_disk.specs.Image.{Image, Stays, bytes_in}
use Rattle.ix_disk.specs.Moments.{ImagesStep, Holds}
use Rattle.ix_disk.proofs.Runs.{settles}
use Rattle.ix_disk.specs.declared.disk.Disk.{Ghosts}
use Rattle.ix_log.specs.Log.{block, blocks, Gated, AtEnd, ReadOn, IsAsRead, IsAtEnd, IsReading, IsCut}
use Rattle.ix_log.specs.Head.{IsHead}
use Rattle.ix_log.specs.declared.head.Head.TheVariants.{End, Body, Cut}
use Rattle.ix_log.specs.declared.log.Log.{Log}
use Rattle.ix_log.specs.declared.log.LogFault.{LogFault}
use Rattle.ix_log.specs.declared.log.LogFault.TheVariants.{Damaged}
use Rattle.ix_log.proofs.Blocks.{blocks_push, all_push}

-- what a sync has settled stays so through calls that change nothing
pub as_read_still : {D : Type 0} (g : Ghosts D) (old new : D) (file : File) → ImagesStep g old new Stays → g.seen new ≡ g.seen old →
    IsAsRead g old file → IsAsRead g new file
as_read_still g old new file stays same as_read image left =
    let from = stays.now image left in
    let read = as_read from.0 from.1 in
    (read.0, same ∙ read.1, ap (λ (i : Image). i file) from.2 ∙ read.2)

-- what stands at the log's place
pub rest_is : (bodies : List (List ℕ)) (size at : ℕ) (file : List ℕ) (on : ReadOn bodies size file) → at ≡ length (blocks bodies) →
    drop at file ≡ on.rest
rest_is bodies size at file on place = ap (λ (l : List ℕ). drop at l) on.spelled ∙ drop_at (blocks bodies) on.rest at (sym place)

pub rest_left : (bodies : List (List ℕ)) (size at : ℕ) (file : List ℕ) → ReadOn bodies size file → at ≡ length (blocks bodies) → 1 < size →
    0 < length (drop at file)
rest_left bodies size at file on place more = omega (
  arith,
  on.goes_on (omega (arith, on.measured)),
  ap length (rest_is bodies size at file on place),
)

-- how much of the file is left
pub left_is : (bodies : List (List ℕ)) (size at : ℕ) (file : List ℕ) → ReadOn bodies size file → at ≡ length (blocks bodies) → 1 < size →
    (left : ℕ) → left ≡ size - at → (left ≡ length (drop at file)) × (0 < left)
left_is bodies size at file on place more left is =
    let same : left ≡ length (drop at file) = omega (arith, is, on.measured, length-drop at file) in
    (same, omega (arith, same, rest_left bodies size at file on place more))

pub gated_here : (bodies : List (List ℕ)) (size at : ℕ) (file : List ℕ) → ReadOn bodies size file → at ≡ length (blocks bodies) →
    IsHead End (drop at file) → Gated bodies file
gated_here bodies size at file on place head = record {
  gate = head.0;
  rest = head.1;
  spelled = on.spelled ∙ ap (λ (l : List ℕ). blocks bodies ++ l) (sym (rest_is bodies size at file on place) ∙ head.2);
  shut = head.3;
  fit = on.fit;
}

-- a file of at most one byte has been read to its end
pub short_end : {D : Type 0} (g : Ghosts D) (disk : D) (log : Log) (bodies : List (List ℕ)) → IsReading g log disk bodies → log.size ≤ 1 →
    IsAtEnd g log disk bodies
short_end g disk log bodies reading le = record {
  place = reading.place;
  idle = reading.idle;
  none_put = reading.none_put;
  images = subst (λ (b : Bool). Holds g disk log.file (AtEnd b bodies)) (sym reading.fresh)
      (settles g disk log.file (AtEnd false bodies) reading.settled (λ image told.
      let on = reading.reads image told in
      let short : length (bytes_in image log.file) ≤ 1 = omega (arith, on.measured, le) in
      (on.short short, short)));
}

-- what each image holds where a gate was read that is not open
pub gated_end : {D : Type 0} (g : Ghosts D) (old new : D) (log : Log) (bodies : List (List ℕ)) (left : ℕ) → IsReading g log old bodies →
    1 < log.size → left ≡ log.size - log.at
    → ImagesStep g old new Stays → g.seen new ≡ g.seen old
    → ((image : Image) → g.seen old ≡ Some image → left ≡ length (drop log.at (bytes_in image log.file)) → 0 < left →
    IsHead End (drop log.at (bytes_in image log.file)))
    → Holds g new log.file (Gated bodies)
gated_end g old new log bodies left reading more left_by stays same head =
    settles g new log.file (Gated bodies) (as_read_still g old new log.file stays same reading.settled) (λ image is.
    let told : g.seen old ≡ Some image = sym same ∙ is in
    let file = bytes_in image log.file in
    let on = reading.reads image told in
    let fits = left_is bodies log.size log.at file on reading.place more left left_by in
    gated_here bodies log.size log.at file on reading.place (head image told fits.0 fits.1))

-- the next body, and what stands behind it
module _ (bodies : List (List ℕ)) (size at len : ℕ) (file : List ℕ) (on : ReadOn bodies size file) (place : at ≡ length (blocks bodies))
    (more : 1 < size) (head : IsHead (Body len) (drop at file)) (fits : len < 2 ^ 32) where
  behind : drop (at + 5) file ≡ head.0
  behind = sym (drop-drop 5 at file) ∙ ap (λ (l : List ℕ). drop 5 l) head.1

  whole : on.rest ≡ 1 ∷ to_be_bytes w32 len ++ head.0
  whole = sym (rest_is bodies size at file on place) ∙ head.1

  pub room_for : at + 5 + len ≤ length file
  room_for = omega (arith, ap length on.spelled, length-append (blocks bodies) on.rest, ap length whole, head.2)

  pub body_here : (body : List ℕ) → body ≡ take len (drop (at + 5) file) → (length body ≡ len) × ReadOn (bodies ++ body ∷ []) size file
  body_here body is =
      let tail = head.0 in
      let body_is : body ≡ take len tail = is ∙ ap (λ (l : List ℕ). take len l) behind in
      let size_is : length body ≡ len = omega (arith, ap length body_is, length-take len tail, head.2) in
      let split : tail ≡ body ++ drop len tail = sym (take-append-drop len tail) ∙ ap (λ (l : List ℕ). l ++ drop len tail) (sym body_is) in (
        size_is,
        record {
          rest = drop len tail;
          spelled = on.spelled ∙ ap (λ (l : List ℕ). blocks bodies ++ l) (whole
              ∙ ap (λ (k : ℕ). 1 ∷ to_be_bytes w32 k ++ tail) (sym size_is)
              ∙ ap (λ (l : List ℕ). 1 ∷ to_be_bytes w32 (length body) ++ l) split
              ∙ sym (append_assoc (1 ∷ to_be_bytes w32 (length body)) body (drop len tail)))
              ∙ sym (blocks_push bodies body (drop len tail));
          measured = on.measured;
          goes_on = λ lt. omega (arith, length-drop len tail, head.2);
          short = λ le. absurd (omega (arith, on.measured));
          fit = all_push bodies body on.fit (omega (arith, size_is, fits));
        },
      )

some_cell : (l : List ℕ) → 0 < length l → (x : ℕ) × (rest : List ℕ) × (l ≡ x ∷ rest)
some_cell [] lt = absurd (omega arith)
some_cell (x ∷ rest) lt = (x, rest, refl)

no_body : (bodies : List (List ℕ)) (tail body rest : List ℕ) (gate : ℕ) → length body < 2 ^ 32 →
    length tail ≤ 4 + from_be_bytes w32 (take 4 tail)
    → blocks bodies ++ 1 ∷ tail ≡ blocks bodies ++ (block body ++ gate ∷ rest) → ⊥
no_body bodies tail body rest gate lt short is =
    let at = length (blocks bodies) in
    let four = to_be_bytes w32 (length body) in
    let behind : 1 ∷ tail ≡ block body ++ gate ∷ rest = sym (drop_at (blocks bodies) (1 ∷ tail) at refl) ∙ ap (λ (l : List ℕ). drop at l) is
    ∙ drop_at (blocks bodies) (block body ++ gate ∷ rest) at refl in
    let split : block body ++ gate ∷ rest ≡ 1 ∷ (four ++ (body ++ gate ∷ rest)) = append_assoc (1 ∷ four) body (gate ∷ rest) in
    let tail_is : tail ≡ four ++ (body ++ gate ∷ rest) = ap (λ (l : List ℕ). drop 1 l) (behind ∙ split) in
    let front : take 4 tail ≡ four = ap (λ (l : List ℕ). take 4 l) tail_is ∙ take_at four (body ++ gate ∷ rest) 4 refl in
    let value : from_be_bytes w32 (take 4 tail) ≡ length body = ap (λ (l : List ℕ). from_be_bytes w32 l) front
    ∙ from_be_bytes-to_be_bytes_4 (length body) lt in
    let size : length tail ≡ 4 + (length body + (1 + length rest)) =
    omega (arith, ap length tail_is, length-append four (body ++ gate ∷ rest), length-append body (gate ∷ rest)) in
    omega (arith, short, value, size)

-- no whole body stands there
pub cut_here : (bodies : List (List ℕ)) (size at : ℕ) (file : List ℕ) → ReadOn bodies size file → at ≡ length (blocks bodies) → 1 < size →
    IsHead Cut (drop at file) → IsCut bodies file
cut_here bodies size at file on place more head =
    let spelled : file ≡ blocks bodies ++ 1 ∷ head.0 = on.spelled
    ∙ ap (λ (l : List ℕ). blocks bodies ++ l) (sym (rest_is bodies size at file on place) ∙ head.1) in
    record {
      tail = head.0;
      spelled = spelled;
      long = omega (arith, on.measured);
      short = λ body gate rest lt is. no_body bodies head.0 body rest gate lt head.2 (sym spelled ∙ is
          ∙ blocks_push bodies body (gate ∷ rest));
    }

-- a whole body stands there
pub not_cut : (bodies : List (List ℕ)) (body file : List ℕ) (size : ℕ) → ReadOn (bodies ++ body ∷ []) size file → 1 < size →
    length body < 2 ^ 32 → IsCut bodies file → ⊥
not_cut bodies body file size on more lt cut =
    let some : 0 < length on.rest = on.goes_on (omega (arith, on.measured)) in
    let parts = some_cell on.rest some in
    cut.short body parts.0 parts.1 lt (on.spelled ∙ ap (λ (l : List ℕ). blocks (bodies ++ body ∷ []) ++ l) parts.2)

abbrev fault : LogFault → Result Bool LogFault
fault f = Err f

pub damaged_is : (a b : ℕ) → fault (Damaged a) ≡ fault (Damaged b) → b ≡ a
damaged_is a b is = cc
