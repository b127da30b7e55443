use Rattle.std.proofs.Common.{rules}
use Rattle.ix_time.proofs.chosen.settle.Goals as goal

pub returns-in-Some-last : goal.returns-in-Some-last
returns-in-Some-last c = search rules
