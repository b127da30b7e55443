use Rattle.ix_bounds.proofs.Orders.{measures_same}
use Rattle.ix_bounds.proofs.ledger_laws.measures_are_same.Goals as goal

pub returns : goal.returns
returns c = λ ledger other shelves h. measures_same ledger other h shelves
