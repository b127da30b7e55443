use Rattle.ix_log.proofs.OneList.{one_list_of, end_has_bodies}
use Rattle.ix_log.proofs.laws.one_list.Goals as goal

pub returns-clause-list : goal.returns-clause-list
returns-clause-list c = one_list_of

pub returns-clause-end : goal.returns-clause-end
returns-clause-end c = end_has_bodies
