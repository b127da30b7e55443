use Rattle.std.proofs.Common.{rules}
use Rattle.ix_time.proofs.chosen.is_accepted.Goals as goal

pub returns-then-time-oldest : goal.returns-then-time-oldest
returns-then-time-oldest c = search rules
