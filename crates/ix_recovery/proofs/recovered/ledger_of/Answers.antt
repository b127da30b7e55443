use Rattle.std.proofs.Common.{rules}
use Rattle.ix_recovery.proofs.recovered.ledger_of.Goals as goal

pub returns : goal.returns
returns c = search rules
