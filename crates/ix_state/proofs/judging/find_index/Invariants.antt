use Rattle.std.proofs.Common.{◌≡◌, drop}
use Rattle.ix_catalog.specs.Lists.{find}
use Rattle.ix_catalog.specs.Shelves.{view_name}
use Rattle.ix_state.proofs.judging.find_index.Given as goal

abbrev pub invariant-loop-view : goal.invariant-loop-view
invariant-loop-view l = find view_name l.name (drop l.view-index l.indexes) ≡ find view_name l.name l.indexes
