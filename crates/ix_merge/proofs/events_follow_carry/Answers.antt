use Rattle.ix_merge.proofs.Laws.{carry-decides}
use Rattle.ix_merge.proofs.events_follow_carry.Goals as goal

pub returns : goal.returns
returns c = carry-decides
