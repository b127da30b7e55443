use Rattle.ix_bounds.proofs.Volumes.{names_are_no_volumes}
use Rattle.ix_bounds.proofs.index_laws.names_are_no_volumes.Goals as goal

pub returns : goal.returns
returns c = names_are_no_volumes
