use Rattle.ix_lines.specs.Newlines.{is_newline}
use Rattle.ix_lines.proofs.DefaultText.{default-tree, newline_set, newline_set-has}
use Rattle.ix_lines.proofs.RunBreaks.{run-breaks}
use Rattle.ix_lines.proofs.newlines.default_breaker.Goals as goal

pub returns-in-Ok-clause-newlines : goal.returns-in-Ok-clause-newlines
returns-in-Ok-clause-newlines c =
    let read = c.in-Ok.ensures.found in
    let is = default-tree read.0 c.in-Ok.pattern read.1 in
    run-breaks is_newline newline_set newline_set-has c.in-Ok.pattern is.0 is.1
