use Rattle.std.proofs.Common.{rules}
use Rattle.ix_pattern.proofs.pattern.Pattern.accepts.Goals as goal

pub returns-clause-counted : goal.returns-clause-counted
returns-clause-counted g c = search rules
