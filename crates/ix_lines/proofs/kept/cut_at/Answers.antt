use Rattle.std.proofs.Common.{rules}
use Rattle.ix_lines.proofs.kept.cut_at.Goals as goal

pub returns-then-not-goes_on-3 : goal.returns-then-not-goes_on-3
returns-then-not-goes_on-3 c = search rules
