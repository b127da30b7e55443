use Rattle.std.proofs.Common.{rules}
use Rattle.ix_merge.proofs.merging.Merge.resume.Goals as goal

pub returns-clause-stands : goal.returns-clause-stands
returns-clause-stands c = search rules
