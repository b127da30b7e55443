use Rattle.std.proofs.Common.{◌≡◌, ◌++◌, length, take}
use Rattle.std.specs.List.{flat_map}
use Rattle.ix_coding.specs.Spelling.{four}
use Rattle.ix_parse.specs.Spelling.{line_bytes}
use Rattle.ix_parse.proofs.writing.put_runs.Given as goal

abbrev pub invariant-loop-run : goal.invariant-loop-run
invariant-loop-run l = record { put : l.out ≡ l.fn.out ++ (four (length l.runs) ++ flat_map line_bytes (take l.run-index l.runs)) }
