use Rattle.ix_lines.proofs.Attempts.{breaks-stable}
use Rattle.ix_lines.proofs.Looking.{anew}
use Rattle.ix_lines.proofs.breaks.Breaker.new.Goals as goal

pub returns-clause-stable : goal.returns-clause-stable
returns-clause-stable c = breaks-stable c.args.pattern c.root.ensures.sound c.requires

pub returns-clause-goes_on : goal.returns-clause-goes_on
returns-clause-goes_on c = λ before bytes. anew c.in_ok-scan.scan c.in_ok-scan.scan before bytes c.in_ok-scan.ensures.given
