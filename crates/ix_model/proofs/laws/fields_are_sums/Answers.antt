use Rattle.ix_model.proofs.Stepping.{sound_after}
use Rattle.ix_model.proofs.laws.fields_are_sums.Goals as goal

pub returns : goal.returns
returns c = sound_after
