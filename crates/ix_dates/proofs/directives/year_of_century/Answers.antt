use Rattle.std.proofs.Common.{rules}
use Rattle.ix_dates.proofs.directives.year_of_century.Goals as goal

pub returns : goal.returns
returns c = search rules
