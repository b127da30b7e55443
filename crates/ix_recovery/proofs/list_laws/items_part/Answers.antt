use Rattle.ix_recovery.proofs.Parted.{items_part}
use Rattle.ix_recovery.proofs.list_laws.items_part.Goals as goal

pub returns : goal.returns
returns c = items_part
