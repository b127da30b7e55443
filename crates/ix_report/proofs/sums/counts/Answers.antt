use Rattle.std.proofs.Common.{rules}
use Rattle.ix_report.proofs.sums.counts.Goals as goal

pub returns-in-Thawed : goal.returns-in-Thawed
returns-in-Thawed c = search rules
