use Rattle.std.proofs.Common.{length}
use Rattle.ix_dates.proofs.directives.+behind_all.Given as goal

abbrev pub decreases-behind_all : goal.decreases-behind_all
decreases-behind_all l = length l.bytes.now
