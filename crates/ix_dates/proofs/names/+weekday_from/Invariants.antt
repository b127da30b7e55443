use Rattle.std.proofs.Common.{◌-◌}
use Rattle.ix_dates.proofs.names.+weekday_from.Given as goal

abbrev pub decreases-weekday_from : goal.decreases-weekday_from
decreases-weekday_from l = 7 - l.place
