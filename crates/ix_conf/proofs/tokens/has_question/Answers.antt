use Rattle.std.proofs.Common.{◌∙◌, sym, arith}
use Rattle.ix_conf.proofs.TokenLemmas.{short_question}
use Rattle.ix_conf.proofs.tokens.has_question.Goals as goal

pub returns : goal.returns
returns c = sym (short_question c.loop-rest.rest.now (omega arith)) ∙ c.loop-rest.invariant
