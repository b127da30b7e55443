use Rattle.ix_base.specs.Lent.{lent_event}
use Rattle.ix_bucket.proofs.Records.{begins, none_begins, none_again, only_reading}
use Rattle.ix_bucket.proofs.reading.decode.Goals as goal

pub returns-in-Err-clause-bad : goal.returns-in-Err-clause-bad
returns-in-Err-clause-bad c = λ event n h. none_begins c.args.bytes.now event n h c.in-Err.ensures.gives

pub returns-in-Err-clause-only : goal.returns-in-Err-clause-only
returns-in-Err-clause-only c = λ event rest fits same. absurd (none_again c.args.bytes.now event rest fits same c.in-Err.ensures.gives)

pub overflow_sub-result : goal.overflow_sub-result
overflow_sub-result c = (begins c.args.bytes.now (lent_event c.in-Ok.event) c.in-Ok.rest.now c.in-Ok.ensures.ranged
    c.in-Ok.ensures.found).within

pub returns-in-Ok-clause-found : goal.returns-in-Ok-clause-found
returns-in-Ok-clause-found c = (begins c.args.bytes.now (lent_event c.in-Ok.event) c.in-Ok.rest.now c.in-Ok.ensures.ranged
    c.in-Ok.ensures.found).is_record

pub returns-in-Ok-clause-only : goal.returns-in-Ok-clause-only
returns-in-Ok-clause-only c = λ event rest fits same.
    only_reading c.args.bytes.now (lent_event c.in-Ok.event) event c.in-Ok.rest.now rest c.in-Ok.ensures.ranged fits c.in-Ok.ensures.found
    same
