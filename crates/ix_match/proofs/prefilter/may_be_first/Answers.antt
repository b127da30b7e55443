use Rattle.ix_match.specs.Prefilters.{may_be_first}
use Rattle.ix_match.proofs.prefilter.may_be_first.Goals as goal

pub returns : goal.returns
unfolding may_be_first
returns g c = c.may_begin.ensures
