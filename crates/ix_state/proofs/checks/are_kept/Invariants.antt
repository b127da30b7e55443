use Rattle.std.proofs.Common.{◌≡◌, drop, map}
use Rattle.ix_model.specs.Given.{entry}
use Rattle.ix_state.specs.Checks.{same_entries}
use Rattle.ix_state.proofs.checks.are_kept.Given as goal

abbrev pub invariant-loop-at : goal.invariant-loop-at
invariant-loop-at l = same_entries (drop l.at l.merged) (map entry (drop l.at l.kept)) ≡ same_entries l.merged (map entry l.kept)
