-- What an attempt comes to.
use Rattle.std.specs.Prelude.{◌≡◌, ℕ, ◌+◌, List, Option, Some, None, length, min}
use Rattle.ix_pattern.specs.Ways.{Text}
use Rattle.ix_pattern.specs.Rows.{Rows}
use Rattle.ix_pikevm.specs.Code.{IsCode, HasSets}
use Rattle.ix_pikevm.specs.Looks.{HasNoLook}
use Rattle.ix_pikevm.specs.Ran.{Ends, IsOf}
use Rattle.ix_pikevm.specs.declared.code.Instr.{Instr}
use Rattle.ix_pikevm.specs.declared.cells.Cell.{Cell}
use Rattle.ix_pikevm.specs.declared.cells.Best.{Best}

-- code of a pattern with these pieces, without lookaheads
pub record IsPlainCode (rows : Rows) (code : List Instr) : Type 0 where
  pub targets : IsCode code
  pub sets : HasSets (length rows) code
  pub plain : HasNoLook code

-- the answer, if there is one, stands for the head of the ways
abbrev pub Settled : Rows → List Instr → Text → ℕ → ℕ → List Cell → Option Best → Type 0
Settled rows code text start place cells None = Unit {0}
Settled rows code text start place cells (Some best) = Ends (IsOf rows) code text start place cells best

-- so many steps were taken of those that were left, all that one attempt may take
abbrev pub IsSpent : ℕ → ℕ → Type 0
IsSpent old new = new + min old 16384 ≡ old
