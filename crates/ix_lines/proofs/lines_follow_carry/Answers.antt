use Rattle.ix_lines.specs.Breaks.{breaks_by}
use Rattle.ix_lines.proofs.Attempts.{breaks-stable}
use Rattle.ix_lines.proofs.CarryLaw.{carry-decides}
use Rattle.ix_lines.proofs.lines_follow_carry.Goals as goal

pub returns : goal.returns
returns c = λ p sound some. carry-decides (breaks_by p) (breaks-stable p sound some)
