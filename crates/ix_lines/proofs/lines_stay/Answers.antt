use Rattle.ix_lines.specs.Breaks.{breaks_by}
use Rattle.ix_lines.specs.Newlines.{newlines}
use Rattle.ix_lines.proofs.WalkLemmas.{lines-stay}
use Rattle.ix_lines.proofs.Attempts.{breaks-stable}
use Rattle.ix_lines.proofs.NewlinesStable.{newlines-stable}
use Rattle.ix_lines.proofs.lines_stay.Goals as goal

pub returns-clause-patterns : goal.returns-clause-patterns
returns-clause-patterns c = λ p sound some. lines-stay (breaks_by p) (breaks-stable p sound some)

pub returns-clause-newlines : goal.returns-clause-newlines
returns-clause-newlines c = lines-stay newlines newlines-stable
