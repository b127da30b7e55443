use Rattle.ix_props.proofs.SameLemmas.{one}
use Rattle.ix_props.proofs.laws.settings_are_one.Goals as goal

pub returns : goal.returns
returns c = one c.one_syntax.ensures
