use Rattle.ix_state.proofs.NameLemmas.{read_names}
use Rattle.ix_state.proofs.keeping.read_names_are_short.Goals as goal

pub returns : goal.returns
returns c = read_names
