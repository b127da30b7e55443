use Rattle.std.proofs.Common.{rules}
use Rattle.ix_life.proofs.picks.is_old.Goals as goal

pub returns : goal.returns
returns c = search rules
