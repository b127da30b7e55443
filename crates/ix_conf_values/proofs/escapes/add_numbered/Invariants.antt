use Rattle.std.proofs.Common.{◌≡◌, ◌++◌, length}
use Rattle.ix_conf_values.specs.Escapes.{numbered}
use Rattle.ix_conf_values.proofs.escapes.add_numbered.Given as goal

abbrev pub invariant-loop-rest : goal.invariant-loop-rest
invariant-loop-rest l = l.found ++ numbered l.rest ≡ l.initial.found ++ numbered l.text

abbrev pub decreases-loop-rest : goal.decreases-loop-rest
decreases-loop-rest l = length l.rest
