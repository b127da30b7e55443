use Rattle.ix_fs.proofs.NameLemmas.{names-in-order}
use Rattle.ix_fs.proofs.trees.names_are_in_order.Goals as goal

pub returns : goal.returns
returns c = names-in-order
