use Rattle.ix_state.proofs.Choosing.{choosers_exist}
use Rattle.ix_state.proofs.choosers.choosers_exist.Goals as goal

pub returns : goal.returns
returns c = choosers_exist c.readings_are_one.ensures c.settings_are_one.ensures
