use Rattle.ix_items.proofs.RowsAgain.{one_body}
use Rattle.ix_items.proofs.laws.one_list.Goals as goal

pub returns : goal.returns
returns c = one_body
