use Rattle.std.proofs.Common.{◌≡◌, ◌-◌, ◌≤◌, length, drop}
use Rattle.ix_lines.specs.Moments.{moments_of}
use Rattle.ix_lines.proofs.moments.whole_runs.Given as goal

abbrev pub invariant-loop-gone : goal.invariant-loop-gone
invariant-loop-gone l =
    (l.gone ≤ length l.runs) × (drop l.n (moments_of l.runs) ≡ drop l.left (moments_of (drop l.gone l.runs)))

abbrev pub decreases-loop-gone : goal.decreases-loop-gone
decreases-loop-gone l = length l.runs - l.gone
