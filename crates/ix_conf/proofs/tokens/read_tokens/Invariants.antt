use Rattle.std.proofs.Common.{◌≡◌, ◌++◌, length}
use Rattle.ix_conf.specs.Names.{tokens}
use Rattle.ix_conf.proofs.tokens.read_tokens.Given as goal

abbrev pub invariant-loop-rest : goal.invariant-loop-rest
invariant-loop-rest l = l.found.items ++ tokens l.rest ≡ tokens l.text

abbrev pub decreases-loop-rest : goal.decreases-loop-rest
decreases-loop-rest l = length l.rest
