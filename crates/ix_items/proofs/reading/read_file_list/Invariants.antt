use Rattle.std.proofs.Common.{◌≡◌, ◌-◌, ◌++◌, length}
use Rattle.std.specs.List.{flat_map, AllByRecursion}
use Rattle.ix_coding.specs.Spelling.{Is64}
use Rattle.ix_items.specs.Spelling.{file_bytes}
use Rattle.ix_items.specs.Reading.{list_at, file_at}
use Rattle.ix_items.proofs.Lists.{with_front}
use Rattle.ix_items.proofs.reading.read_file_list.Given as goal

abbrev pub invariant-loop : goal.invariant-loop
invariant-loop l = record {
  gives : with_front l.list (list_at file_at (l.count - l.counter) l.rest) ≡ list_at file_at l.count l.bytes;
  found : l.bytes ≡ flat_map file_bytes l.list ++ l.rest;
  counted : length l.list ≡ l.counter;
  ranged : AllByRecursion (λ f. Is64 f.number) l.list;
}
