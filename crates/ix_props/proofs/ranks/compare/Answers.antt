use Rattle.std.proofs.Common.{rules}
use Rattle.ix_props.proofs.ranks.compare.Goals as goal

pub returns-in_default-cmp : goal.returns-in_default-cmp
returns-in_default-cmp c = search rules
