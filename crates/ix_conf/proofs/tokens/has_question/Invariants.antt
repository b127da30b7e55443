use Rattle.std.proofs.Common.{◌≡◌, length}
use Rattle.ix_conf.specs.Names.{has_question}
use Rattle.ix_conf.proofs.tokens.has_question.Given as goal

abbrev pub invariant-loop-rest : goal.invariant-loop-rest
invariant-loop-rest l = has_question l.rest ≡ has_question l.tokens

abbrev pub decreases-loop-rest : goal.decreases-loop-rest
decreases-loop-rest l = length l.rest
