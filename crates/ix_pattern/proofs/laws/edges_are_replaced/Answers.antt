use Rattle.ix_pattern.proofs.Refining.{edges-replaced}
use Rattle.ix_pattern.proofs.laws.edges_are_replaced.Goals as goal

pub returns : goal.returns
returns c = edges-replaced
