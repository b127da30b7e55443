-- A pattern, written out with its lookaheads.
use Rattle.std.specs.Prelude.{◌≡◌, ℕ, ◌<◌, List, length, Some, slice_get}
use Rattle.ix_pattern.specs.Piece.{Piece, ahead}
use Rattle.ix_pattern.specs.Rows.{Rows, piece_at, tree}
use Rattle.ix_pikevm.specs.Code.{IsCode, HasSets}
use Rattle.ix_pikevm.specs.Looks.{HasNoLook}
use Rattle.ix_pikevm.specs.Aims.{Aim, stop_aim, aim_at, pre, Meets, AreAims}
use Rattle.ix_pikevm.specs.Programs.{no_hole, IsProgram, AreAsks, IsAsked, AllAsked, AsksFit}
use Rattle.ix_pikevm.specs.declared.code.Instr.{Instr}
use Rattle.ix_pikevm.specs.declared.code.Instr.TheVariants.{Match, Byte, Split, Jump, Begin, Finish, TextStart, TextEnd, Word, Look}
use Rattle.ix_pikevm.specs.declared.code.Lookahead.{Lookahead}
use Rattle.ix_pikevm.specs.declared.program.Program.{Program}

-- by what the instructions of the insides are for
pub record IsAskBy (rows : Rows) (aims : List Aim) (ask : Lookahead) : Type 0 where
  pub inside : Piece
  pub is : piece_at rows ask.piece ≡ ahead inside ask.wanted
  pub below : ask.piece < length rows
  pub within : ask.start < length aims
  pub meets : Meets (aim_at aims ask.start) (pre inside stop_aim)

-- the lookaheads so far, and the code of their insides
pub record Collecting (rows : Rows) (asks : List Lookahead) (inner : List Instr) : Type 0 where
  pub aims : List Aim
  pub fits : AreAims rows aims no_hole inner
  pub some : 0 < length aims
  pub first : aim_at aims 0 ≡ stop_aim
  pub plain : HasNoLook inner
  pub each : (k : ℕ) (ask : Lookahead) → slice_get asks k ≡ Some ask → IsAskBy rows aims ask

abbrev pub StillAsked : List Lookahead → List Lookahead → Type 0
StillAsked old new = (piece : ℕ) → IsAsked old piece → IsAsked new piece

-- where it is a lookahead, it is asked for
abbrev pub IsNamed : Instr → List Lookahead → Type 0
IsNamed Match asks = Unit {0}
IsNamed (Byte set next) asks = Unit {0}
IsNamed (Split first other) asks = Unit {0}
IsNamed (Jump next) asks = Unit {0}
IsNamed (Begin next) asks = Unit {0}
IsNamed (Finish number next) asks = Unit {0}
IsNamed (TextStart lines next) asks = Unit {0}
IsNamed (TextEnd lines next) asks = Unit {0}
IsNamed (Word next) asks = Unit {0}
IsNamed (Look piece next) asks = IsAsked asks piece

-- those of the first n instructions were collected
pub record IsCollected (rows : Rows) (code : List Instr) (n : ℕ) (asks : List Lookahead) (inner : List Instr) : Type 0 where
  pub collecting : Collecting rows asks inner
  pub asked : (pc : ℕ) (i : Instr) → pc < n → slice_get code pc ≡ Some i → IsNamed i asks

pub record IsWritten (rows : Rows) (program : Program) : Type 0 where
  pub code : IsProgram rows (tree rows) program.code.items program.start
  pub asked : AllAsked program.asks.items program.code.items
  pub asks : AreAsks rows program.inner.items program.asks.items
  pub fit : AsksFit program.asks.items (length program.inner.items) (length rows)
  pub inner : IsCode program.inner.items
  pub insides : HasSets (length rows) program.inner.items
  pub plain : HasNoLook program.inner.items
