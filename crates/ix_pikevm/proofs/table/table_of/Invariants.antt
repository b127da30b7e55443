use Rattle.std.proofs.Common.{◌+◌, ◌*◌, ◌≤◌, length}
use Rattle.ix_pattern.specs.Rows.{byte_pieces}
use Rattle.ix_pikevm.specs.Code.{sets_of}
use Rattle.ix_pikevm.proofs.TableLemmas.{Rows}
use Rattle.ix_pikevm.proofs.table.table_of.Given as goal

abbrev pub invariant-loop-byte : goal.invariant-loop-byte
invariant-loop-byte g l =
    record {
      rows : Rows l.table.items (length l.p.rows) l.byte (sets_of l.p.rows);
      counted : l.steps ≤ l.fn.steps + l.byte * byte_pieces l.p.rows;
      later : l.fn.steps ≤ l.steps;
    }
