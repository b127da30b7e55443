-- What stands at the front of a link's bytes, by the grammar of `httparse`: a head, or none.
use Rattle.std.specs.Prelude.{◌≡◌, ℕ, ◌<◌, ◌≤◌, ◌⊎◌, List, [], ◌∷◌, ◌++◌, length, take, map, false, Result, Ok, Err, IsUtf8}
use Rattle.httparse.specs.Grammar.{RequestHead, ReadsRequest, print_request, HasNoRequest, NeverHasRequest, MayBecomeRequest}
use Rattle.httparse.specs.Spans.{IsRequestAt, IsRequestWithin, name_and_value, span_bytes}
use Rattle.httparse.specs.declared.spans.HeaderSpan.{HeaderSpan}
use Rattle.httparse.specs.declared.spans.RequestSpans.{RequestSpans}
use Rattle.ix_heads.specs.Limits.{max_head, max_lines}
use Rattle.ix_heads.specs.declared.faults.LinkFault.{LinkFault}
use Rattle.ix_heads.specs.declared.faults.LinkFault.TheVariants.{Failed, Cut, NoMemory}
use Rattle.ix_heads.specs.declared.reading.HeadRead.{HeadRead}
use Rattle.ix_heads.specs.declared.reading.HeadRead.TheVariants.{Ended, Bad, Whole}

-- what a head says: each header line is a name, and a value without the spaces and tabs round it
pub record Heading : Type 0 where
  pub method : List ℕ
  pub target : List ℕ
  pub lines : List (List ℕ × List ℕ)

abbrev pub heading : RequestHead → Heading
heading h = record { method = h.method; target = h.target; lines = map name_and_value h.fields }

-- these bytes are a head of the grammar, and then the rest
pub record HasHead (bytes : List ℕ) (h : RequestHead) (rest : List ℕ) : Type 0 where
  pub reads : ReadsRequest bytes h rest
  pub size : length (print_request h) ≤ max_head

-- no front of at most `max_head` bytes is a head
abbrev pub LacksHead : List ℕ → Type 0
LacksHead bytes = (h : RequestHead) (rest : List ℕ) → ¬ (HasHead bytes h rest)

-- up to their last one, these bytes may have become a head
abbrev pub IsSoon : List ℕ → Type 0
IsSoon bytes = (front : List ℕ) (last : ℕ) → bytes ≡ front ++ last ∷ [] → MayBecomeRequest front

-- No head stands there, and some bytes are refused: all that a head may have, or so many that no
-- continuation makes a head. Before the last of them one still might.
pub record IsHeadless (bytes rest : List ℕ) : Type 0 where
  pub refused : List ℕ
  pub before : bytes ≡ refused ++ rest
  pub size : length refused ≤ max_head
  pub none : LacksHead bytes
  pub settled : (length refused ≡ max_head) ⊎ NeverHasRequest refused
  pub soon : IsSoon refused

-- The bytes ended inside a head.
pub record IsCut (bytes : List ℕ) : Type 0 where
  pub some : 0 < length bytes
  pub short : length bytes < max_head
  pub none_yet : HasNoRequest bytes
  pub may_go_on : MayBecomeRequest bytes

-- a head that has too many header lines
abbrev pub IsCrowded : List ℕ → List ℕ → Type 0
IsCrowded bytes rest = (h : RequestHead) × HasHead bytes h rest × (max_lines < length h.fields)

-- some bytes were taken from the front, or none
abbrev pub TakesSome : List ℕ → List ℕ → Type 0
TakesSome old new = (taken : List ℕ) × (old ≡ taken ++ new)

-- some bytes were taken, and if they are a head with something behind it, it has too many header
-- lines
abbrev pub TakesNoGood : List ℕ → List ℕ → Type 0
TakesNoGood old new =
    (taken : List ℕ) × (old ≡ taken ++ new)
    × ((h : RequestHead) (rest : List ℕ) → ReadsRequest taken h rest → max_lines < length h.fields)

-- the spans are those of the head, and the head is all that was taken
pub record IsWhole (bytes : List ℕ) (headers : List HeaderSpan) (spans : RequestSpans) (old new : List ℕ) : Type 0 where
  pub head : RequestHead
  pub has : HasHead old head new
  pub at : IsRequestAt bytes headers spans head

-- what bytes without a head are at the end of a link
abbrev pub FitsEnd : List ℕ → Result HeadRead LinkFault → Type 0
FitsEnd bytes (Ok Ended) = bytes ≡ []
FitsEnd bytes (Ok Bad) = (length bytes ≡ max_head) ⊎ NeverHasRequest bytes
FitsEnd bytes (Ok (Whole spans)) = ⊥
FitsEnd bytes (Err Cut) = IsCut bytes
FitsEnd bytes (Err Failed) = ⊥
FitsEnd bytes (Err (NoMemory whole)) = whole ≡ false

-- what was read from the front of a link's bytes, and what is left of them
abbrev pub FitsHead : List ℕ → List HeaderSpan → Result HeadRead LinkFault → List ℕ → List ℕ → Type 0
FitsHead bytes headers (Ok Ended) old new = (old ≡ []) × (new ≡ [])
FitsHead bytes headers (Ok Bad) old new = IsHeadless old new ⊎ IsCrowded old new
FitsHead bytes headers (Ok (Whole spans)) old new = IsWhole (take spans.len bytes) headers spans old new
FitsHead bytes headers (Err Cut) old new = IsCut old × (new ≡ [])
FitsHead bytes headers (Err Failed) old new = TakesSome old new
FitsHead bytes headers (Err (NoMemory whole)) old new = (whole ≡ false) × TakesNoGood old new

-- the spans lie in the bytes, and not too many are those of header lines
abbrev pub KeepsWithin : List ℕ → List HeaderSpan → Result HeadRead LinkFault → Type 0
KeepsWithin bytes headers (Ok Ended) = Unit {0}
KeepsWithin bytes headers (Ok Bad) = Unit {0}
KeepsWithin bytes headers (Ok (Whole spans)) =
    (spans.len ≤ length bytes) × IsRequestWithin (take spans.len bytes) headers spans
    × IsUtf8 (span_bytes (take spans.len bytes) spans.path)
KeepsWithin bytes headers (Err fault) = Unit {0}
