use Rattle.std.proofs.Common.{rules}
use Rattle.ix_life.proofs.placing.by_used.Goals as goal

pub returns-in-Some : goal.returns-in-Some
returns-in-Some c = search rules
