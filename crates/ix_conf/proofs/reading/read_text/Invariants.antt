use Rattle.std.proofs.Common.{◌≡◌, ◌≤◌, ◌+◌, false}
use Rattle.std.specs.Prelude.{codes}
use Rattle.std.specs.Option.{option_copied}
use Rattle.ix_conf.specs.Lines.{physical_lines, logical_lines}
use Rattle.ix_conf.specs.Grammar.{behind, entries_of}
use Rattle.ix_conf.specs.Reading.{lines_behind, size_behind}
use Rattle.ix_conf.proofs.reading.read_text.Given as goal

abbrev pub invariant-loop-ahead : goal.invariant-loop-ahead
invariant-loop-ahead l = record {
  same : behind l.reader.entries (entries_of l.reader.stanza (logical_lines false l.number (lines_behind (option_copied l.ahead))))
      ≡ entries_of (codes "default") (logical_lines false 1 (physical_lines l.fn.text));
  small : size_behind (option_copied l.ahead) + l.number ≤ 1048578;
}

abbrev pub decreases-loop-ahead : goal.decreases-loop-ahead
decreases-loop-ahead l = size_behind (option_copied l.ahead)
