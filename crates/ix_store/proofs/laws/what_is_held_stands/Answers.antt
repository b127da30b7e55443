use Rattle.ix_store.proofs.Lawful.{held_stands}
use Rattle.ix_store.proofs.laws.what_is_held_stands.Goals as goal

pub returns : goal.returns
returns g c = held_stands g.D.Disk _ g.M.StoreMemory.holds
