use Rattle.std.proofs.Common.{arith}
use Rattle.ix_conf_values.proofs.seds.read_swapping.Goals as goal

pub returns-clause-applicable : goal.returns-clause-applicable
returns-clause-applicable c = omega arith
