use Rattle.std.proofs.Common.{◌∙◌, ap}
use Rattle.ix_match.specs.Scans.{emptied}
use Rattle.ix_lines.specs.Begun.{Breaking}
use Rattle.ix_lines.proofs.breaks.Breaker.stand.Goals as goal

pub returns-clause-other : goal.returns-clause-other
returns-clause-other c = λ some. c.reset.ensures ∙ ap (λ (b : Breaking). emptied b.scan) c.self.view_is

pub returns-clause-pattern : goal.returns-clause-pattern
returns-clause-pattern c = ap (λ (b : Breaking). b.pattern) c.self.view_is
