use Rattle.ix_state.proofs.Chosen.{settings_exist}
use Rattle.ix_state.proofs.choosers.settings_exist.Goals as goal

pub returns : goal.returns
returns c = settings_exist
