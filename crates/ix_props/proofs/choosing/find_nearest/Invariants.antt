use Rattle.std.proofs.Common.{◌≡◌, ℕ, ◌≤◌, List, drop, length}
use Rattle.std.specs.Option.{option_map, option_copied}
use Rattle.ix_props.specs.Ranking.{found, lent_candidate, nearest, rank_for}
use Rattle.ix_props.proofs.choosing.find_nearest.Given as goal

abbrev pub invariant-loop-at : goal.invariant-loop-at
invariant-loop-at l = record {
  within : l.at ≤ length l.entries;
  so_far : (key : List ℕ) → option_map lent_candidate (found l.nearest key)
      ≡ nearest (rank_for (found l.ranks) (option_copied l.sourcetype)) key (drop l.at l.entries);
}

abbrev pub decreases-loop-at : goal.decreases-loop-at
decreases-loop-at l = l.at
