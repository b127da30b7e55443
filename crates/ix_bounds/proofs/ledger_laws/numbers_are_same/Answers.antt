use Rattle.ix_bounds.proofs.Orders.{number_same}
use Rattle.ix_bounds.proofs.ledger_laws.numbers_are_same.Goals as goal

pub returns : goal.returns
returns c = λ ledger other index buckets h. number_same ledger other h index buckets
