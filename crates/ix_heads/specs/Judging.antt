-- What is known of bytes of which all but the last one are no head.
use Rattle.std.specs.Prelude.{◌≡◌, ℕ, ◌<◌, ◌⊎◌, List, [], ◌∷◌, ◌++◌, length, Bool, true, false, Result, Ok, Err, IsUtf8}
use Rattle.httparse.specs.Grammar.{LineEnd, print_end, RequestHead, ReadsRequest, HasNoRequest, NeverHasRequest, MayBecomeRequest}
use Rattle.httparse.specs.Spans.{IsRequestAt, IsRequestWithin, span_bytes}
use Rattle.httparse.specs.declared.spans.HeaderSpan.{HeaderSpan}
use Rattle.httparse.specs.declared.spans.RequestSpans.{RequestSpans}
use Rattle.ix_base.specs.declared.faults.NoMemory.{NoMemory}
use Rattle.ix_heads.specs.Limits.{max_lines}
use Rattle.ix_heads.specs.declared.judging.Judged.{Judged}
use Rattle.ix_heads.specs.declared.judging.Judged.TheVariants.{Open, Bad, Whole}
use Rattle.ix_heads.specs.declared.judging.Look.{Look}
use Rattle.ix_heads.specs.declared.judging.Look.TheVariants.{Head, Partly, Never}

-- the bytes end in an empty line, behind another line
abbrev pub EndsInEmptyLine : List ℕ → Type 0
EndsInEmptyLine bytes = (front : List ℕ) × (end : LineEnd) × (bytes ≡ front ++ 10 ∷ print_end end)

-- a byte of a line end
abbrev pub IsLineByte : ℕ → Type 0
IsLineByte b = (b ≡ 10) ⊎ (b ≡ 13)

-- a head that these bytes begin with has too many header lines
abbrev pub OnlyCrowded : List ℕ → Type 0
OnlyCrowded bytes = (h : RequestHead) (rest : List ℕ) → ReadsRequest bytes h rest → max_lines < length h.fields

-- the spans are those of a head that all the bytes are
pub record IsHeadAt (bytes : List ℕ) (headers : List HeaderSpan) (spans : RequestSpans) : Type 0 where
  pub len : spans.len ≡ length bytes
  pub head : RequestHead
  pub at : IsRequestAt bytes headers spans head

-- bytes with too many header lines: refused, or no head yet
abbrev pub IsRefused : List ℕ → Result Bool NoMemory → Type 0
IsRefused bytes (Ok true) = NeverHasRequest bytes ⊎ ((h : RequestHead) × ReadsRequest bytes h [] × (max_lines < length h.fields))
IsRefused bytes (Ok false) = HasNoRequest bytes × MayBecomeRequest bytes
IsRefused bytes (Err fault) = OnlyCrowded bytes

-- what was found of the bytes
abbrev pub IsJudged : List ℕ → List HeaderSpan → Result Judged NoMemory → Type 0
IsJudged bytes headers (Ok Open) = HasNoRequest bytes × MayBecomeRequest bytes
IsJudged bytes headers (Ok Bad) = NeverHasRequest bytes ⊎ ((h : RequestHead) × ReadsRequest bytes h [] × (max_lines < length h.fields))
IsJudged bytes headers (Ok (Whole spans)) = IsHeadAt bytes headers spans
IsJudged bytes headers (Err fault) = OnlyCrowded bytes

-- the spans of a head lie in the bytes
abbrev pub KeepsJudged : List ℕ → List HeaderSpan → Result Judged NoMemory → Type 0
KeepsJudged bytes headers (Ok Open) = Unit {0}
KeepsJudged bytes headers (Ok Bad) = Unit {0}
KeepsJudged bytes headers (Ok (Whole spans)) = IsRequestWithin bytes headers spans × IsUtf8 (span_bytes bytes spans.path)
KeepsJudged bytes headers (Err fault) = Unit {0}

-- what a parse with room for all header lines finds
abbrev pub IsLook : List ℕ → Look → Type 0
IsLook bytes Head = (h : RequestHead) × (rest : List ℕ) × ReadsRequest bytes h rest
IsLook bytes Partly = HasNoRequest bytes × MayBecomeRequest bytes
IsLook bytes Never = NeverHasRequest bytes

-- at the end of a link: the bytes may become a head, or never do
abbrev pub MayGoOn : List ℕ → Look → Type 0
MayGoOn bytes Head = ⊥
MayGoOn bytes Partly = MayBecomeRequest bytes
MayGoOn bytes Never = NeverHasRequest bytes
