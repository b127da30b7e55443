use Rattle.std.proofs.Common.{◌∷◌, ◌≤◌, drop, length}
use Rattle.ix_conf.specs.Walk.{MarksAll, walk, start}
use Rattle.ix_conf.proofs.names.leads_to_end.Given as goal

abbrev pub invariant-loop-at : goal.invariant-loop-at
invariant-loop-at l = record {
  within : l.at ≤ length l.tokens;
  marked : MarksAll l.name (walk l.fold (drop l.at l.tokens) start) (l.top ∷ l.below.items);
}

abbrev pub decreases-loop-at : goal.decreases-loop-at
decreases-loop-at l = l.at
