use Rattle.std.proofs.Common.{◌≡◌, ◌-◌, ◌++◌, length}
use Rattle.std.specs.List.{flat_map, AllByRecursion}
use Rattle.ix_items.specs.Spelling.{kept_bytes, IsKept}
use Rattle.ix_items.specs.Reading.{list_at, kept_at}
use Rattle.ix_items.proofs.Lists.{with_front}
use Rattle.ix_items.proofs.reading.read_kept_list.Given as goal

abbrev pub invariant-loop : goal.invariant-loop
invariant-loop l = record {
  gives : with_front l.list (list_at kept_at (l.count - l.counter) l.rest) ≡ list_at kept_at l.count l.bytes;
  found : l.bytes ≡ flat_map kept_bytes l.list ++ l.rest;
  counted : length l.list ≡ l.counter;
  kept : AllByRecursion IsKept l.list;
}
