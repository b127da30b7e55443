use Rattle.ix_items.proofs.RowsAgain.{one_reading}
use Rattle.ix_items.proofs.laws.one_item.Goals as goal

pub returns : goal.returns
returns c = one_reading
