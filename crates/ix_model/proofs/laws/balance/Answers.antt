use Rattle.ix_model.proofs.Balanced.{balanced_after}
use Rattle.ix_model.proofs.Viewing.{view_balanced}
use Rattle.ix_model.proofs.laws.balance.Goals as goal

pub returns-clause-state : goal.returns-clause-state
returns-clause-state c = balanced_after

pub returns-clause-view : goal.returns-clause-view
returns-clause-view c = view_balanced
