use Rattle.ix_recovery.proofs.Holding.{holds, not_refused}
use Rattle.ix_recovery.proofs.laws.logs_are_held.Goals as goal

pub returns-clause-held : goal.returns-clause-held
returns-clause-held c = holds

pub returns-clause-refused : goal.returns-clause-refused
returns-clause-refused c = not_refused
