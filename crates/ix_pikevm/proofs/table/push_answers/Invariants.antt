use Rattle.std.proofs.Common.{◌+◌, ◌≤◌, take}
use Rattle.ix_pattern.specs.Rows.{byte_pieces}
use Rattle.ix_pikevm.specs.Code.{sets_of}
use Rattle.ix_pikevm.specs.Ran.{Row}
use Rattle.ix_pikevm.proofs.table.push_answers.Given as goal

abbrev pub invariant-loop-piece : goal.invariant-loop-piece
invariant-loop-piece g l =
    record {
      row : Row l.fn.answers.items l.answers.items l.piece (sets_of l.p.rows) l.byte;
      counted : l.steps ≤ l.fn.steps + byte_pieces (take l.piece l.p.rows);
      later : l.fn.steps ≤ l.steps;
    }
