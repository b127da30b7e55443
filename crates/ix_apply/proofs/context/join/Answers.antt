use Rattle.std.proofs.Common.{rules}
use Rattle.ix_apply.proofs.context.join.Goals as goal

pub returns-in-Ok-clause-is : goal.returns-in-Ok-clause-is
returns-in-Ok-clause-is c = search rules
