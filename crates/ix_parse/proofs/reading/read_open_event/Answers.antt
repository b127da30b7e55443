use Rattle.ix_parse.specs.Spelling.{event_bytes}
use Rattle.ix_parse.proofs.Found.{some_found}
use Rattle.ix_parse.proofs.reading.read_open_event.Goals as goal

pub returns-clause-found : goal.returns-clause-found
returns-clause-found c =
    some_found event_bytes c.in_ok-event.event c.in_ok-some.some _ _ _ c.in_ok-some.ensures.found c.if-not-some.false
    c.in_ok-event.ensures.found.0
