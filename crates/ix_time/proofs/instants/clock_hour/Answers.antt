use Rattle.std.proofs.Common.{rules}
use Rattle.ix_time.proofs.instants.clock_hour.Goals as goal

pub returns-in-Some-OfHalfDay-Some-false : goal.returns-in-Some-OfHalfDay-Some-false
returns-in-Some-OfHalfDay-Some-false c = search rules
