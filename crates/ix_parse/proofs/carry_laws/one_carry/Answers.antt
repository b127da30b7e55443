use Rattle.ix_parse.proofs.Whole.{one_carry}
use Rattle.ix_parse.proofs.carry_laws.one_carry.Goals as goal

pub returns : goal.returns
returns c = one_carry
