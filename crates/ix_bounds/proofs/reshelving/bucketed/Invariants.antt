use Rattle.std.proofs.Common.{◌≡◌, take}
use Rattle.ix_bounds.specs.Shelving.{bucketed}
use Rattle.ix_bounds.proofs.reshelving.bucketed.Given as goal

abbrev pub invariant-loop-view : goal.invariant-loop-view
invariant-loop-view l = l.found.items ≡ bucketed l.ledger (take l.view-index l.list)
