use Rattle.std.proofs.Common.{rules}
use Rattle.ix_conf_values.proofs.patterns.read_pattern.Goals as goal

pub returns-in-Err-TooLarge-clause-fault : goal.returns-in-Err-TooLarge-clause-fault
returns-in-Err-TooLarge-clause-fault c = c.in-Err-TooLarge.ensures.too_large (search rules)
