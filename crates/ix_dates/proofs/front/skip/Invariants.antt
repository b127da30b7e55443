use Rattle.std.proofs.Common.{◌≡◌, length}
use Rattle.ix_dates.specs.Front.{skip_quiet}
use Rattle.ix_dates.proofs.front.skip.Given as goal

abbrev pub invariant-loop-rest : goal.invariant-loop-rest
invariant-loop-rest l = skip_quiet l.rest ≡ skip_quiet l.fn.s

abbrev pub decreases-loop-rest : goal.decreases-loop-rest
decreases-loop-rest l = length l.rest
