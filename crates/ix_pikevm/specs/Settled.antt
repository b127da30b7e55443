-- The threads of one place.
use Rattle.std.specs.Prelude.{◌≡◌, ℕ, List, [], ◌∷◌, ◌++◌, Option, Some, None, slice_get, slice_index_or, reverse}
use Rattle.ix_pattern.specs.Ways.{Text, Way}
use Rattle.ix_pattern.specs.Rows.{Rows}
use Rattle.ix_pikevm.specs.Code.{Mean, Meaning, thread_ways, list_ways, best_ways}
use Rattle.ix_pikevm.specs.Cover.{Kept}
use Rattle.ix_pikevm.specs.Acts.{IsByte}
use Rattle.ix_pikevm.specs.Looks.{AreLooks}
use Rattle.ix_pikevm.specs.declared.code.Instr.{Instr}
use Rattle.ix_pikevm.specs.declared.cells.Cell.{Cell}
use Rattle.ix_pikevm.specs.declared.cells.Thread.{Thread}
use Rattle.ix_pikevm.specs.declared.cells.Best.{Best}
use Rattle.ix_pikevm.specs.declared.leaf.Leaf.{Leaf}

abbrev pub AllBytes : List Instr → List Thread → Type 0
AllBytes code [] = Unit {0}
AllBytes code (t ∷ ts) = IsByte code t × AllBytes code ts

-- The head of the ways of the ready threads, those of the stack, the last first, and the best.
-- Cells may come.
abbrev pub HasHead : Mean → List (Option (ℕ × ℕ)) → ℕ → List Cell → List Thread → List Thread → Best → Option Way → Type 0
HasHead mean blank p cells ready stack best goal = (later : List Cell) →
    slice_get (list_ways (thread_ways mean (cells ++ later) p) ready
    ++ (list_ways (thread_ways mean (cells ++ later) p) (reverse stack) ++ best_ways blank (cells ++ later) best)) 0 ≡ goal

abbrev pub or_best : Option Best → Best → Best
or_best None best = best
or_best (Some found) best = found

abbrev pub marked : List ℕ → ℕ → ℕ → Type 0
marked marks stamp k = slice_index_or marks k 0 ≡ stamp

abbrev pub Keeps : List Instr → List Leaf → Text → ℕ → List Cell → List Thread → List ℕ → ℕ → List Cell → List Thread → List Thread → Type 0
Keeps code looks text p cells0 stack0 marks stamp cells ready stack =
    (rows : Rows) (blank : List (Option (ℕ × ℕ))) (mean : Mean) (rank : ℕ → ℕ) → Meaning code rows text blank mean rank →
    AreLooks code looks rows text p →
    (best : Best) (goal : Option Way) → HasHead mean blank p cells0 [] stack0 best goal → (later : List Cell) →
    Kept (thread_ways mean (cells ++ later) p) rank (marked marks stamp) ready (reverse stack) (best_ways blank (cells ++ later) best) goal

-- what the threads of a place come to
abbrev pub Settles : List Instr → List Leaf → Text → ℕ → List Cell → List Thread → List Cell → List Thread → Option Best → Type 0
Settles code looks text p cells0 stack0 cells ready o =
    (rows : Rows) (blank : List (Option (ℕ × ℕ))) (mean : Mean) (rank : ℕ → ℕ) → Meaning code rows text blank mean rank →
    AreLooks code looks rows text p →
    (best : Best) (goal : Option Way) → HasHead mean blank p cells0 [] stack0 best goal →
    HasHead mean blank p cells ready [] (or_best o best) goal
