-- The search of texts for one pattern.
use Rattle.std.specs.Prelude.{◌≡◌, ◌*◌, length}
use Rattle.ix_pattern.specs.Rows.{Rows}
use Rattle.ix_pikevm.specs.Programs.{AsksFit}
use Rattle.ix_pikevm.specs.Ran.{AreMarks}
use Rattle.ix_pikevm.specs.Tests.{IsTable}
use Rattle.ix_pikevm.specs.Written.{IsWritten}
use Rattle.ix_pikevm.specs.declared.matcher.Matcher.{Matcher}
use Rattle.ix_pikevm.specs.declared.matcher_ref.Scratch.{Scratch}
use Rattle.ix_pikevm.specs.declared.program.Program.{Program}

-- it is for the pattern with these pieces
pub record IsFinder (rows : Rows) (finder : Matcher) : Type 0 where
  pub program : IsWritten rows finder.program
  pub all : length finder.table.items ≡ 256 * finder.width
  pub table : IsTable finder.table.items finder.width rows

-- it has the same code
pub record IsSameProgram (program copy : Program) : Type 0 where
  pub code : copy.code.items ≡ program.code.items
  pub start : copy.start ≡ program.start
  pub asks : copy.asks.items ≡ program.asks.items
  pub inner : copy.inner.items ≡ program.inner.items

-- it has the same code and the same table
pub record IsSameFinder (finder copy : Matcher) : Type 0 where
  pub program : IsSameProgram finder.program copy.program
  pub table : copy.table.items ≡ finder.table.items
  pub width : copy.width ≡ finder.width

-- there is room for it
pub record HasRoom (finder : Matcher) (room : Scratch) : Type 0 where
  pub main : AreMarks room.main.marks.items (length finder.program.code.items) room.main.stamp
  pub inner : AreMarks room.inner.marks.items (length finder.program.inner.items) room.inner.stamp
  pub looks : AsksFit finder.program.asks.items (length finder.program.inner.items) (length room.looks.items)
