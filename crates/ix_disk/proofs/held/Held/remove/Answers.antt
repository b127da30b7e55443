use Rattle.std.proofs.Common.{rules}
use Rattle.ix_disk.proofs.held.Held.remove.Goals as goal

pub returns-clause-torn : goal.returns-clause-torn
returns-clause-torn c = search rules
