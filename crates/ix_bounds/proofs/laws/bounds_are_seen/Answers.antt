use Rattle.ix_bounds.proofs.Seen.{bounds_are_seen}
use Rattle.ix_bounds.proofs.laws.bounds_are_seen.Goals as goal

pub returns : goal.returns
returns c = bounds_are_seen
