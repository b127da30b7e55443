-- A pattern, written out.
use Rattle.std.specs.Prelude.{◌≡◌, ℕ, ◌<◌, Bool, false, List, length, Option, Some, slice_get}
use Rattle.ix_pattern.specs.Piece.{Piece, ahead}
use Rattle.ix_pattern.specs.Ways.{Text, ways}
use Rattle.ix_pattern.specs.Rows.{Rows, piece_at}
use Rattle.ix_pikevm.specs.Code.{best_ways}
use Rattle.ix_pikevm.specs.Aims.{Aim, stop_aim, aim_at, pre, Meets, AreAims}
use Rattle.ix_pikevm.specs.declared.code.Instr.{Instr}
use Rattle.ix_pikevm.specs.declared.code.Instr.TheVariants.{Look}
use Rattle.ix_pikevm.specs.declared.code.Lookahead.{Lookahead}
use Rattle.ix_pikevm.specs.Looks.{IsLook}
use Rattle.ix_pikevm.specs.declared.leaf.Leaf.{Leaf}
use Rattle.ix_pikevm.specs.declared.cells.Cell.{Cell}
use Rattle.ix_pikevm.specs.declared.cells.Best.{Best}

abbrev pub no_hole : ℕ → Bool
no_hole k = false

-- it begins with the piece, and ends with that
pub record IsProgram (rows : Rows) (piece : Piece) (code : List Instr) (start : ℕ) : Type 0 where
  pub aims : List Aim
  pub fits : AreAims rows aims no_hole code
  pub within : start < length code
  pub meets : Meets (aim_at aims start) (pre piece stop_aim)

-- the answer is the head of the ways of the piece
abbrev pub IsHead : Piece → Text → List (Option (ℕ × ℕ)) → ℕ → List Cell → Best → Type 0
IsHead piece text blank place cells best =
    slice_get (ways piece text (record { place = place; groups = blank })) 0 ≡ slice_get (best_ways blank cells best) 0

-- it asks what a lookahead does, and its inside begins there in the code of the insides
pub record IsAsk (rows : Rows) (inner : List Instr) (ask : Lookahead) : Type 0 where
  pub inside : Piece
  pub is : piece_at rows ask.piece ≡ ahead inside ask.wanted
  pub program : IsProgram rows inside inner ask.start

abbrev pub AreAsks : Rows → List Instr → List Lookahead → Type 0
AreAsks rows inner asks = (k : ℕ) (ask : Lookahead) → slice_get asks k ≡ Some ask → IsAsk rows inner ask

-- one of them asks for this piece
pub record IsAsked (asks : List Lookahead) (piece : ℕ) : Type 0 where
  pub k : ℕ
  pub ask : Lookahead
  pub at : slice_get asks k ≡ Some ask
  pub is : ask.piece ≡ piece

-- the lookaheads of the code are asked for
abbrev pub AllAsked : List Lookahead → List Instr → Type 0
AllAsked asks code = (pc piece next : ℕ) → slice_get code pc ≡ Some (Look piece next) → IsAsked asks piece

-- there are n pieces, and so many instructions for the insides
abbrev pub AsksFit : List Lookahead → ℕ → ℕ → Type 0
AsksFit asks count n = (k : ℕ) (ask : Lookahead) → slice_get asks k ≡ Some ask → (ask.start < count) × (ask.piece < n)

-- what stands for each of the first n is what it comes to
abbrev pub AllLooked : ℕ → List Lookahead → List Leaf → Rows → Text → ℕ → Type 0
AllLooked n asks looks rows text p = (k : ℕ) (ask : Lookahead) → k < n → slice_get asks k ≡ Some ask → IsLook looks rows text p ask.piece
