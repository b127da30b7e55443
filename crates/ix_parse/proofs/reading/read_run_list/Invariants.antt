use Rattle.std.proofs.Common.{◌≡◌, ◌-◌, ◌++◌, length}
use Rattle.std.specs.List.{flat_map, AllByRecursion}
use Rattle.ix_parse.specs.Spelling.{line_bytes}
use Rattle.ix_parse.specs.Form.{IsRun}
use Rattle.ix_parse.specs.Reading.{run_list_at}
use Rattle.ix_parse.proofs.Lists.{with_front}
use Rattle.ix_parse.proofs.reading.read_run_list.Given as goal

abbrev pub invariant-loop : goal.invariant-loop
invariant-loop l = record {
  gives : with_front l.list (run_list_at (l.count - l.counter) l.rest) ≡ run_list_at l.count l.bytes;
  found : l.bytes ≡ flat_map line_bytes l.list ++ l.rest;
  counted : length l.list ≡ l.counter;
  each : AllByRecursion IsRun l.list;
}
