use Rattle.ix_parse.specs.Spelling.{line_bytes}
use Rattle.ix_parse.specs.Form.{IsOpenLine}
use Rattle.ix_parse.proofs.Found.{some_found, for_some}
use Rattle.ix_parse.proofs.reading.read_open_line.Goals as goal

pub returns-clause-found : goal.returns-clause-found
returns-clause-found c = (
  some_found line_bytes c.in_ok-line.line c.in_ok-some.some _ _ _ c.in_ok-some.ensures.found c.if-not-some.false
      c.in_ok-line.ensures.found.0,
  for_some (λ line. IsOpenLine c.args.most line) c.in_ok-line.line c.in_ok-line.ensures.found.1,
)
