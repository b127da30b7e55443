use Rattle.std.proofs.Common.{rules}
use Rattle.ix_conf_values.proofs.values.value_of.Goals as goal

pub returns-else-is_empty : goal.returns-else-is_empty
returns-else-is_empty c = search rules
