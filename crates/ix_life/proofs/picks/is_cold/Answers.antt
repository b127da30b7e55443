use Rattle.std.proofs.Common.{rules}
use Rattle.ix_life.proofs.picks.is_cold.Goals as goal

pub returns-in-Hot : goal.returns-in-Hot
returns-in-Hot c = search rules
