use Rattle.std.proofs.Common.{rules}
use Rattle.ix_pattern.proofs.parts.alternatives.Goals as goal

pub returns-in-Some-clause-meaning : goal.returns-in-Some-clause-meaning
returns-in-Some-clause-meaning c = search rules
