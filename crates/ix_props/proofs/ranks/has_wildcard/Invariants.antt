use Rattle.std.proofs.Common.{◌≡◌, length}
use Rattle.ix_props.specs.Choice.{has_wildcard}
use Rattle.ix_props.proofs.ranks.has_wildcard.Given as goal

abbrev pub invariant-loop-rest : goal.invariant-loop-rest
invariant-loop-rest l = has_wildcard l.rest ≡ has_wildcard l.text

abbrev pub decreases-loop-rest : goal.decreases-loop-rest
decreases-loop-rest l = length l.rest
