use Rattle.std.specs.List.{AllAdjacentBelow}
use Rattle.ix_effects.specs.Guarding.{Ascends}
use Rattle.ix_effects.proofs.guards.stand_by_name.Given as goal

abbrev pub invariant-loop-at : goal.invariant-loop-at
invariant-loop-at l = AllAdjacentBelow Ascends l.indexes l.at
