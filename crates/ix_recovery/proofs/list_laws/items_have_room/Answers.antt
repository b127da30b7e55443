use Rattle.ix_recovery.proofs.Sized.{have_room}
use Rattle.ix_recovery.proofs.list_laws.items_have_room.Goals as goal

pub returns : goal.returns
returns c = have_room
