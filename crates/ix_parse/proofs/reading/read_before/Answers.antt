use Rattle.ix_coding.specs.Spelling.{byte}
use Rattle.ix_parse.proofs.Found.{some_found}
use Rattle.ix_parse.proofs.reading.read_before.Goals as goal

pub returns-clause-found : goal.returns-clause-found
returns-clause-found c =
    some_found byte c.in_ok-byte.byte c.in_ok-some.some _ _ _ c.in_ok-some.ensures.found c.if-not-some.false c.in_ok-byte.ensures.found
