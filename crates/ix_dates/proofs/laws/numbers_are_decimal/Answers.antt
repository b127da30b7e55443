use Rattle.ix_dates.proofs.DecimalLemmas.{numbers}
use Rattle.ix_dates.proofs.laws.numbers_are_decimal.Goals as goal

pub returns : goal.returns
returns c = numbers
