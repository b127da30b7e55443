use Rattle.ix_recovery.proofs.Telling.{lists_tell}
use Rattle.ix_recovery.proofs.list_laws.lists_tell.Goals as goal

pub returns : goal.returns
returns c = lists_tell
