use Rattle.std.proofs.Common.{rules}
use Rattle.tests_crash.proofs.counted.CountedDisk.remove.Goals as goal

pub returns-clause-removed : goal.returns-clause-removed
returns-clause-removed g c = search rules
