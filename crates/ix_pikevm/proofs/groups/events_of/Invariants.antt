use Rattle.std.proofs.Common.{◌≡◌, ◌++◌}
use Rattle.ix_pikevm.specs.Code.{history}
use Rattle.ix_pikevm.proofs.groups.events_of.Given as goal

abbrev pub invariant-loop-at : goal.invariant-loop-at
invariant-loop-at l = history l.cells l.trail ≡ l.events.items ++ history l.cells l.at

abbrev pub decreases-loop-at : goal.decreases-loop-at
decreases-loop-at l = l.at
