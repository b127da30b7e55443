use Rattle.ix_model.proofs.Ascending.{in_order_after, said_after}
use Rattle.ix_model.proofs.laws.states_are_in_order.Goals as goal

pub returns-clause-order : goal.returns-clause-order
returns-clause-order c = in_order_after

pub returns-clause-said : goal.returns-clause-said
returns-clause-said c = said_after
