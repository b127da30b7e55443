use Rattle.std.proofs.Common.{rules}
use Rattle.indexd_run.proofs.finish.stop_run.Goals as goal

pub returns-then-loses-clause-short : goal.returns-then-loses-clause-short
returns-then-loses-clause-short g c = search rules
