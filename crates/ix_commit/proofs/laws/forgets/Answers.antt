use Rattle.ix_commit.proofs.Steps.{stages_less}
use Rattle.ix_commit.proofs.laws.forgets.Goals as goal

pub returns : goal.returns
returns c = stages_less
