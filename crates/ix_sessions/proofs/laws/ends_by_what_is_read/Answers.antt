use Rattle.ix_serve.specs.Serving.{IsTold}
use Rattle.ix_sessions.specs.Feeding.{entry_of}
use Rattle.ix_sessions.proofs.Known.{ends_by_read}
use Rattle.ix_sessions.proofs.laws.ends_by_what_is_read.Goals as goal

pub returns : goal.returns
returns g c = λ s earlier turn from to request is up fine.
    ends_by_read request (entry_of s earlier turn) (IsTold g.D.Disk turn.disk) turn.read turn.result turn.answer is.says is.came up fine
