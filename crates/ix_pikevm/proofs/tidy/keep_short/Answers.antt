use Rattle.std.proofs.Common.{rules}
use Rattle.ix_pikevm.proofs.tidy.keep_short.Goals as goal

pub returns-then-len-limit-clause-short : goal.returns-then-len-limit-clause-short
returns-then-len-limit-clause-short c = search rules
