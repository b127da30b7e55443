-- All bytes of a text.
use Rattle.std.specs.Prelude.{◌≡◌, ℕ, ◌<◌, ◌≤◌, List, [], ◌++◌, length, Bool, false, Option, slice_get, slice_index_or}
use Rattle.ix_pattern.specs.Piece.{in_set}
use Rattle.ix_pattern.specs.Ways.{Text, Way}
use Rattle.ix_pattern.specs.Rows.{Rows}
use Rattle.ix_pikevm.specs.Code.{Mean, Meaning, set_in, best_ways}
use Rattle.ix_pikevm.specs.Agrees.{Agrees, SightsAgree}
use Rattle.ix_pikevm.specs.Looks.{AreLooks}
use Rattle.ix_pikevm.specs.declared.leaf.Leaf.{Leaf}
use Rattle.ix_pikevm.specs.Settled.{HasHead}
use Rattle.ix_pikevm.specs.declared.code.Instr.{Instr}
use Rattle.ix_pikevm.specs.declared.code.Lookahead.{Lookahead}
use Rattle.ix_pikevm.specs.declared.cells.Cell.{Cell}
use Rattle.ix_pikevm.specs.declared.cells.Thread.{Thread}
use Rattle.ix_pikevm.specs.declared.cells.Best.{Best}

-- no mark is above the stamp, and there is one for each of n instructions
abbrev pub AreMarks : List ℕ → ℕ → ℕ → Type 0
AreMarks marks n stamp = (length marks ≡ n) × ((k : ℕ) → slice_index_or marks k 0 ≤ stamp)

-- what stands for each lookahead of the code is what it comes to in such a pattern
abbrev pub Looked : List Instr → List Leaf → Text → ℕ → Rows → Type 0
Looked code looks text p rows = AreLooks code looks rows text p

-- it is this pattern
abbrev pub IsOf : Rows → Rows → Type 0
IsOf pattern rows = rows ≡ pattern

-- What follows is said of each pattern of which this much is known.
-- The threads of a place come to those that are ready there.
abbrev pub Rounds : (Rows → Type 0) → List Instr → Text → ℕ → List Cell → List Thread → List Cell → List Thread → Best → Best → Type 0
Rounds known code text p cells0 stack0 cells ready before after =
    (rows : Rows) (blank : List (Option (ℕ × ℕ))) (mean : Mean) (rank : ℕ → ℕ) → Meaning code rows text blank mean rank → known rows →
    (goal : Option Way) → HasHead mean blank p cells0 [] stack0 before goal → HasHead mean blank p cells ready [] after goal

-- the threads of a place, from the first one on
abbrev pub Goes : (Rows → Type 0) → List Instr → Text → ℕ → ℕ → ℕ → List Cell → List Thread → Best → Type 0
Goes known code text start place p cells stack best =
    (rows : Rows) (blank : List (Option (ℕ × ℕ))) (mean : Mean) (rank : ℕ → ℕ) → Meaning code rows text blank mean rank → known rows →
    HasHead mean blank p cells [] stack best (slice_get (mean start [] place) 0)

-- the answer stands for the head of the ways
abbrev pub Ends : (Rows → Type 0) → List Instr → Text → ℕ → ℕ → List Cell → Best → Type 0
Ends known code text start place cells best =
    (rows : Rows) (blank : List (Option (ℕ × ℕ))) (mean : Mean) (rank : ℕ → ℕ) → Meaning code rows text blank mean rank → known rows →
    slice_get (mean start [] place) 0 ≡ slice_get (best_ways blank cells best) 0

-- What is seen of a text decides the tests at the places before this one, those of lookaheads among
-- them, and has its bytes.
abbrev pub Sees : List Lookahead → Text → Text → ℕ → Type 0
Sees asks seen real to = (k : ℕ) → k < to →
    Agrees seen real k × SightsAgree asks seen real k × (slice_get real.bytes k ≡ slice_get seen.bytes k)

-- a row of n answers to a byte was added
pub record Row (old new : List Bool) (n : ℕ) (sets : List (List Bool)) (byte : ℕ) : Type 0 where
  pub row : List Bool
  pub is : new ≡ old ++ row
  pub all : length row ≡ n
  pub answers : (k : ℕ) → k < n → slice_index_or row k false ≡ in_set (set_in sets k) byte

-- cells were added
pub record Grown (old new : List Cell) : Type 0 where
  pub added : List Cell
  pub is : new ≡ old ++ added
