use Rattle.std.proofs.Common.{rules}
use Rattle.ix_recovery.proofs.gathering.GatheredItems.take.Goals as goal

pub returns-in-Ledger : goal.returns-in-Ledger
returns-in-Ledger c = search rules

pub returns-in-Spot : goal.returns-in-Spot
returns-in-Spot c = search rules
