use Rattle.ix_store.proofs.Lawful.{held_then}
use Rattle.ix_store.proofs.laws.accepted_is_held.Goals as goal

pub returns : goal.returns
returns g c = held_then g.D.Disk _ g.M.StoreMemory.holds
