use Rattle.std.proofs.Common.{◌-◌, ◌≤◌, length}
use Rattle.ix_lines.specs.Moments.{PointsInto}
use Rattle.ix_lines.proofs.moments.Cursor.advance.Given as goal

abbrev pub invariant-loop-self : goal.invariant-loop-self
invariant-loop-self l = PointsInto l.runs l.self × (l.self.passed ≤ l.place)

abbrev pub decreases-loop-self : goal.decreases-loop-self
decreases-loop-self l = length l.runs - l.self.run
