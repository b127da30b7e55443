-- What is kept of an attempt while bytes come.
use Rattle.std.specs.Prelude.{◌≡◌, ℕ, ◌+◌, ◌≤◌, true, List, length, Option}
use Rattle.ix_pattern.specs.Ways.{Text}
use Rattle.ix_pattern.specs.Laws.{Continues}
use Rattle.ix_pattern.specs.Rows.{Rows}
use Rattle.ix_pikevm.specs.Agrees.{AreEnough}
use Rattle.ix_pikevm.specs.Acts.{AllKnown}
use Rattle.ix_pikevm.specs.Ran.{Goes, IsOf}
use Rattle.ix_pikevm.specs.declared.code.Instr.{Instr}
use Rattle.ix_pikevm.specs.declared.code.Lookahead.{Lookahead}
use Rattle.ix_pikevm.specs.declared.cells.Cell.{Cell}
use Rattle.ix_pikevm.specs.declared.cells.Thread.{Thread}
use Rattle.ix_pikevm.specs.declared.cells.Best.{Best}
use Rattle.ix_pikevm.specs.declared.program.Program.{Program}
use Rattle.ix_pikevm.specs.declared.attempt.Attempt.{Attempt}

-- what has come of a text, which goes on
abbrev pub so_far : Option ℕ → List ℕ → Text
so_far before bytes = record { before = before; bytes = bytes; unfinished = true }

-- the threads of a place of an attempt at the first one, in each text that goes on from this one
abbrev pub Lasts : (Rows → Type 0) → List Instr → Text → ℕ → ℕ → List Cell → List Thread → Best → Type 0
Lasts known code seen start p cells stack best = (real : Text) → Continues seen real → Goes known code real start 0 p cells stack best

-- it stands for the attempt in each text that goes on from these bytes
pub record IsAttemptOn (rows : Rows) (program : Program) (attempt : Attempt) (before : Option ℕ) (bytes : List ℕ) : Type 0 where
  pub within : attempt.place ≤ length bytes
  pub known : AllKnown (length program.code.items) (length attempt.cells.items) attempt.threads.items
  pub lasts : Lasts (IsOf rows) program.code.items (so_far before bytes) program.start attempt.place attempt.cells.items
      attempt.threads.items attempt.best

-- enough bytes of a text that goes on stand behind the place
pub record IsSettled (asks : List Lookahead) (text : Text) (p : ℕ) : Type 0 where
  pub unfinished : text.unfinished ≡ true
  pub behind : ℕ
  pub enough : AreEnough asks behind
  pub within : p + behind ≤ length text.bytes
