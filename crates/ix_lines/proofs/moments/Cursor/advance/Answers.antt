use Rattle.std.proofs.Common.{arith, refl}
use Rattle.ix_lines.proofs.MomentLemmas.{points-on}
use Rattle.ix_lines.proofs.moments.Cursor.advance.Goals as goal

pub loop-self-preserved : goal.loop-self-preserved
loop-self-preserved c = (
  points-on c.args.runs.now c.loop-self.self _ c.loop-self.invariant.0 (omega arith) refl refl,
  omega arith,
)
