use Rattle.ix_pattern.proofs.ReadsLemmas.{one-syntax}
use Rattle.ix_pattern.proofs.laws.one_syntax.Goals as goal

pub returns : goal.returns
returns c = one-syntax
