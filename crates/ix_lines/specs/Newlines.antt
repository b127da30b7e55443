-- A break is a longest run of the bytes 0x0D and 0x0A, as far as an attempt sees.
use Rattle.std.specs.Prelude.{ℕ, Bool, ◌||◌, ◌==◌}
use Rattle.ix_lines.specs.Walk.{BreakFinder}
use Rattle.ix_lines.specs.ByteRuns.{runs_by}

abbrev pub is_newline : ℕ → Bool
is_newline b = (b == 10) || (b == 13)

abbrev pub newlines : BreakFinder
newlines before bytes unfinished = runs_by is_newline before bytes unfinished
