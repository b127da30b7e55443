use Rattle.std.proofs.Common.{rules}
use Rattle.ix_base.proofs.sources.MemSourceSource.read.Goals as goal

pub returns-then-is_due-clause-due : goal.returns-then-is_due-clause-due
returns-then-is_due-clause-due c = search rules
