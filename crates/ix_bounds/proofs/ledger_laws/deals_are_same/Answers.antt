use Rattle.ix_bounds.proofs.Orders.{deals_same}
use Rattle.ix_bounds.proofs.ledger_laws.deals_are_same.Goals as goal

pub returns : goal.returns
returns c = λ ledger other set moment work outcomes h. deals_same ledger other h set moment work outcomes
