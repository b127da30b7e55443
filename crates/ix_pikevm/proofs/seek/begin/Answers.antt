use Rattle.std.proofs.Common.{rules}
use Rattle.ix_pikevm.proofs.seek.begin.Goals as goal

pub returns-else-place-to : goal.returns-else-place-to
returns-else-place-to c = search rules
