use Rattle.std.proofs.Common.{take}
use Rattle.ix_bounds.specs.Totals.{AreSpots}
use Rattle.ix_bounds.proofs.totals.spots_of.Given as goal

abbrev pub invariant-loop-spot : goal.invariant-loop-spot
invariant-loop-spot l = AreSpots (take l.spot-index l.spots) l.sum
