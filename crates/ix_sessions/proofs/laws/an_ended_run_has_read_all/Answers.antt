use Rattle.ix_sessions.proofs.Ended.{ended}
use Rattle.ix_sessions.proofs.laws.an_ended_run_has_read_all.Goals as goal

pub returns : goal.returns
returns c = λ left left'. ended left left'
