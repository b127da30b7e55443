use Rattle.std.proofs.Common.{◌≡◌, ◌++◌, drop}
use Rattle.std.specs.List.{flat_map}
use Rattle.ix_life.specs.Listed.{listed_at}
use Rattle.ix_life.proofs.sets.list_stanzas.Given as goal

abbrev pub invariant-loop-at : goal.invariant-loop-at
invariant-loop-at l = l.list ++ flat_map (listed_at l.indexes) (drop l.at l.indexes) ≡ flat_map (listed_at l.indexes) l.indexes
