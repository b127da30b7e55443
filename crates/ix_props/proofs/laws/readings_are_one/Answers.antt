use Rattle.ix_props.proofs.ReadingLemmas.{readings_one}
use Rattle.ix_props.proofs.laws.readings_are_one.Goals as goal

pub returns : goal.returns
returns c = readings_one
