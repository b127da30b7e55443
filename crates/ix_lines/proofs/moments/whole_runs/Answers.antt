use Rattle.std.proofs.Common.{◌∙◌, arith}
use Rattle.ix_lines.proofs.MomentLemmas.{run-past}
use Rattle.ix_lines.proofs.moments.whole_runs.Goals as goal

pub loop-gone-preserved : goal.loop-gone-preserved
loop-gone-preserved c = (
  omega arith,
  c.loop-gone.invariant.1 ∙ run-past c.args.runs.now c.loop-gone.gone c.loop-gone.left (omega arith) (omega arith),
)
