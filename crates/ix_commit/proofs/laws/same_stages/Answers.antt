use Rattle.ix_commit.proofs.Steps.{stages_same}
use Rattle.ix_commit.proofs.laws.same_stages.Goals as goal

pub returns : goal.returns
returns c = stages_same
