use Rattle.ix_state.proofs.KeptLemmas.{kept_config}
use Rattle.ix_state.proofs.keeping.kept_is_config.Goals as goal

pub returns : goal.returns
returns c = kept_config
