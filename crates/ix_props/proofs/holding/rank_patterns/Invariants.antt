use Rattle.std.proofs.Common.{◌≤◌, drop, length}
use Rattle.ix_props.specs.Ranking.{found, AreRanks}
use Rattle.ix_props.proofs.holding.rank_patterns.Given as goal

abbrev pub invariant-loop-at : goal.invariant-loop-at
invariant-loop-at l = record {
  within : l.at ≤ length l.entries;
  so_far : AreRanks (drop l.at l.entries) l.entries l.source l.host (found l.ranks);
}

abbrev pub decreases-loop-at : goal.decreases-loop-at
decreases-loop-at l = l.at
