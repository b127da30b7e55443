use Rattle.std.proofs.Common.{rules}
use Rattle.ix_channels.proofs.feeding.Fed.worked.Goals as goal

pub returns-clause-change : goal.returns-clause-change
returns-clause-change c = search rules
