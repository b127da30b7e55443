use Rattle.std.proofs.Common.{◌≡◌, length}
use Rattle.jiff_tz.specs.PosixText.{tz_view}
use Rattle.ix_time.specs.Scan.{first_time}
use Rattle.ix_time.proofs.scan.first_time.Given as goal

abbrev pub invariant-loop-rest : goal.invariant-loop-rest
invariant-loop-rest l = first_time (tz_view l.zone) l.arrival l.rest ≡ first_time (tz_view l.fn.zone) l.fn.arrival l.fn.window

abbrev pub decreases-loop-rest : goal.decreases-loop-rest
decreases-loop-rest l = length l.rest
