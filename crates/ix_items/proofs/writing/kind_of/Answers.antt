use Rattle.std.proofs.Common.{rules}
use Rattle.ix_items.proofs.writing.kind_of.Goals as goal

pub returns-in-Counts : goal.returns-in-Counts
returns-in-Counts c = search rules
