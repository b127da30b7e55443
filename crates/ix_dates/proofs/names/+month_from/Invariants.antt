use Rattle.std.proofs.Common.{◌-◌}
use Rattle.ix_dates.proofs.names.+month_from.Given as goal

abbrev pub decreases-month_from : goal.decreases-month_from
decreases-month_from l = 12 - l.place
