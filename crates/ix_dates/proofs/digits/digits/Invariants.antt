use Rattle.std.proofs.Common.{◌≡◌, ◌<◌, ◌≤◌, ◌^◌, length}
use Rattle.ix_dates.specs.Text.{digits}
use Rattle.ix_dates.proofs.digits.digits.Given as goal

abbrev pub invariant-loop-rest : goal.invariant-loop-rest
invariant-loop-rest l = record {
  read : digits l.most l.value l.count l.rest ≡ digits l.most 0 0 l.fn.s;
  small : l.value < 10 ^ l.count;
  few : l.count ≤ l.most;
}

abbrev pub decreases-loop-rest : goal.decreases-loop-rest
decreases-loop-rest l = length l.rest
