use Rattle.std.proofs.Common.{rules}
use Rattle.ix_bucket.proofs.ahead.Reader.has.Goals as goal

pub returns-clause-file : goal.returns-clause-file
returns-clause-file c = search rules
