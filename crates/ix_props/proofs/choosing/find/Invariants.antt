use Rattle.std.proofs.Common.{◌≡◌, drop}
use Rattle.ix_props.specs.Ranking.{lent, set_in}
use Rattle.ix_props.proofs.choosing.find.Given as goal

abbrev pub invariant-loop-entry : goal.invariant-loop-entry
invariant-loop-entry l = set_in (lent (drop l.entry-index l.entries)) l.key ≡ set_in (lent l.entries) l.key
