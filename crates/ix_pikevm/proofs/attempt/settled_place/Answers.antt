use Rattle.std.proofs.Common.{rules}
use Rattle.ix_pikevm.proofs.attempt.settled_place.Goals as goal

pub returns-then-place-all-clause-settled : goal.returns-then-place-all-clause-settled
returns-then-place-all-clause-settled c = search rules
