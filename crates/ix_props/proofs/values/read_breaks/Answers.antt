use Rattle.std.proofs.Common.{rules}
use Rattle.ix_props.proofs.values.read_breaks.Goals as goal

pub returns-in-Err-Pattern-TooLarge-clause-err : goal.returns-in-Err-Pattern-TooLarge-clause-err
returns-in-Err-Pattern-TooLarge-clause-err c = c.in-Err-Pattern-TooLarge.ensures.too_large (search rules)
