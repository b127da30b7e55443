use Rattle.std.proofs.Common.{rules}
use Rattle.ix_dates.proofs.year.in_year.Goals as goal

pub returns-then-found-arrival : goal.returns-then-found-arrival
returns-then-found-arrival c = search rules
