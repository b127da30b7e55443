use Rattle.std.proofs.Common.{rules}
use Rattle.ix_pattern.proofs.pattern.Pattern.for_breaks.Goals as goal

pub returns-in-Err-clause-too_large : goal.returns-in-Err-clause-too_large
returns-in-Err-clause-too_large c = λ e. c.in-Err.ensures.too_large (cc)

pub returns-then-not-takes-clause-matches_empty : goal.returns-then-not-takes-clause-matches_empty
returns-then-not-takes-clause-matches_empty c = search rules
