use Rattle.std.proofs.Common.{rules}
use Rattle.ix_conf_values.proofs.transforms.no_dest.Goals as goal

pub returns-in_default : goal.returns-in_default
returns-in_default c = search rules
