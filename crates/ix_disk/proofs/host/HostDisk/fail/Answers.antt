use Rattle.std.proofs.Common.{rules}
use Rattle.ix_disk.proofs.host.HostDisk.fail.Goals as goal

pub returns-clause-rose : goal.returns-clause-rose
returns-clause-rose g c = search rules
