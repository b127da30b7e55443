use Rattle.ix_replay.proofs.OneList.{one_book, one_sum, all_keep}
use Rattle.ix_replay.proofs.laws.all_keep_bounds.Goals as goal

pub returns-clause-one_list : goal.returns-clause-one_list
returns-clause-one_list c = one_book

pub returns-clause-one_sum : goal.returns-clause-one_sum
returns-clause-one_sum c = one_sum

pub returns-clause-bounds : goal.returns-clause-bounds
returns-clause-bounds c = all_keep
