use Rattle.std.proofs.Common.{◌≡◌, length}
use Rattle.ix_dates.specs.Text.{skip_space}
use Rattle.ix_dates.proofs.digits.skip_space.Given as goal

abbrev pub invariant-loop-rest : goal.invariant-loop-rest
invariant-loop-rest l = skip_space l.rest ≡ skip_space l.fn.s

abbrev pub decreases-loop-rest : goal.decreases-loop-rest
decreases-loop-rest l = length l.rest
