use Rattle.ix_dates.proofs.NumberLemmas.{power_grows}
use Rattle.ix_dates.proofs.digits.number.Goals as goal

pub returns-clause-small : goal.returns-clause-small
returns-clause-small c = power_grows _ _ _ c.digits-value.ensures.small c.digits-value.ensures.few
