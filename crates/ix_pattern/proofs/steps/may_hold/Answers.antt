use Rattle.std.proofs.Common.{rules}
use Rattle.ix_pattern.proofs.steps.may_hold.Goals as goal

pub returns-in-Ahead : goal.returns-in-Ahead
returns-in-Ahead c = search rules
