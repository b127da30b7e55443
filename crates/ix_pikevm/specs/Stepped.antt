-- The threads behind a byte.
use Rattle.std.specs.Prelude.{◌≡◌, ℕ, ◌+◌, ◌<◌, List, length, Bool, false, Option, Some, slice_get, slice_index_or, reverse}
use Rattle.ix_pattern.specs.Piece.{in_set}
use Rattle.ix_pattern.specs.Ways.{Text}
use Rattle.ix_pattern.specs.Rows.{Rows}
use Rattle.ix_pikevm.specs.Code.{Mean, Meaning, thread_ways, list_ways, set_in, sets_of}
use Rattle.ix_pikevm.specs.declared.code.Instr.{Instr}
use Rattle.ix_pikevm.specs.declared.cells.Cell.{Cell}
use Rattle.ix_pikevm.specs.declared.cells.Thread.{Thread}

-- what each set answers to a byte
abbrev pub AreAnswers : List Bool → List (List Bool) → ℕ → Type 0
AreAnswers answers sets byte = (k : ℕ) → k < length answers → slice_index_or answers k false ≡ in_set (set_in sets k) byte

-- the threads have the ways of those on the stack, the last first, a byte later
abbrev pub Steps : List Instr → List Bool → List Thread → List Thread → Type 0
Steps code answers ready stack =
    (rows : Rows) (text : Text) (blank : List (Option (ℕ × ℕ))) (mean : Mean) (rank : ℕ → ℕ) → Meaning code rows text blank mean rank →
    (p byte : ℕ) → slice_get text.bytes p ≡ Some byte → AreAnswers answers (sets_of rows) byte → (cells : List Cell) →
    list_ways (thread_ways mean cells p) ready ≡ list_ways (thread_ways mean cells (p + 1)) (reverse stack)
