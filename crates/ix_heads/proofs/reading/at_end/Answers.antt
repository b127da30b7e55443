use Rattle.std.proofs.Common.{rules}
use Rattle.ix_heads.proofs.reading.at_end.Goals as goal

pub returns-in-Ok-Partly : goal.returns-in-Ok-Partly
returns-in-Ok-Partly c = search rules
