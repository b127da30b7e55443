use Rattle.std.proofs.Common.{rules}
use Rattle.ix_heads.proofs.lines.one_more.Goals as goal

pub returns-in_default : goal.returns-in_default
returns-in_default c = search rules
