use Rattle.std.proofs.Common.{◌≡◌, length}
use Rattle.ix_props.specs.Names.{trim_back}
use Rattle.ix_props.proofs.names.trim_back.Given as goal

abbrev pub invariant-loop-rest : goal.invariant-loop-rest
invariant-loop-rest l = trim_back l.rest ≡ trim_back l.text

abbrev pub decreases-loop-rest : goal.decreases-loop-rest
decreases-loop-rest l = length l.rest
