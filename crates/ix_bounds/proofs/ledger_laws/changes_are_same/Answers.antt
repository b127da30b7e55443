use Rattle.ix_bounds.proofs.Orders.{changes_same}
use Rattle.ix_bounds.proofs.ledger_laws.changes_are_same.Goals as goal

pub returns : goal.returns
returns c = λ ledger other more old new h. changes_same ledger other h more old new
