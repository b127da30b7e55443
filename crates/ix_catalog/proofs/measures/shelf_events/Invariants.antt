use Rattle.std.proofs.Common.{◌≡◌, take}
use Rattle.std.specs.List.{sum_by}
use Rattle.ix_catalog.specs.Measures.{capped, events_in}
use Rattle.ix_catalog.proofs.measures.shelf_events.Given as goal

abbrev pub invariant-loop-view : goal.invariant-loop-view
invariant-loop-view l = l.total ≡ capped (sum_by events_in (take l.view-index l.indexes))
