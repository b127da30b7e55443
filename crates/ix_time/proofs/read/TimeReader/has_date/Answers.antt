use Rattle.std.proofs.Common.{rules}
use Rattle.ix_time.proofs.read.TimeReader.has_date.Goals as goal

pub returns-clause-value : goal.returns-clause-value
returns-clause-value c = search rules
