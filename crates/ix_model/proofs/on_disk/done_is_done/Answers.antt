use Rattle.ix_model.proofs.Done.{done_has_none, done_stays}
use Rattle.ix_model.proofs.on_disk.done_is_done.Goals as goal

pub returns-clause-none : goal.returns-clause-none
returns-clause-none c = done_has_none

pub returns-clause-stays : goal.returns-clause-stays
returns-clause-stays c = done_stays
