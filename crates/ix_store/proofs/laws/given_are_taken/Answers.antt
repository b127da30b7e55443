use Rattle.ix_store.proofs.Joining.{more_taken}
use Rattle.ix_store.proofs.laws.given_are_taken.Goals as goal

pub returns : goal.returns
returns g c = λ choose history order. more_taken g.M.StoreMemory.takes g.met.M.StoreMemory.ticks_are_taken choose history order
