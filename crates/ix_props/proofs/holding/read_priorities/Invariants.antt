use Rattle.std.proofs.Common.{◌≡◌, ℕ, ◌≤◌, List, drop, length, codes}
use Rattle.std.specs.Option.{option_map}
use Rattle.ix_props.specs.Choice.{number_of, value_in}
use Rattle.ix_props.specs.Ranking.{found}
use Rattle.ix_props.proofs.holding.read_priorities.Given as goal

abbrev pub invariant-loop-at : goal.invariant-loop-at
invariant-loop-at l = record {
  within : l.at ≤ length l.entries;
  so_far : (stanza : List ℕ) → found l.priorities stanza ≡ option_map number_of (value_in stanza (codes "priority") (drop l.at l.entries));
}

abbrev pub decreases-loop-at : goal.decreases-loop-at
decreases-loop-at l = l.at
