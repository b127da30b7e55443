use Rattle.std.proofs.Common.{rules}
use Rattle.ix_disk.proofs.past.Past.ask.Goals as goal

pub returns-then-due-clause-recorded : goal.returns-then-due-clause-recorded
returns-then-due-clause-recorded c = search rules
