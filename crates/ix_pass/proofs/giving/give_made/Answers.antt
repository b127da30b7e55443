use Rattle.ix_pass.specs.Giving.{order_at}
use Rattle.ix_pass.proofs.Going.{went_short}
use Rattle.ix_pass.proofs.giving.give_made.Goals as goal

pub returns-in-Err : goal.returns-in-Err
returns-in-Err g c = λ command is takes.
    went_short g.D.Disk g.M.StoreMemory.is_chooser g.M.StoreMemory.takes g.M.Book.ManifestState.fits g.M.StoreMemory.holds
    g.met.M.StoreMemory.ticks_are_taken c.args.store.now c.args.disk.now (order_at command c.args.moment) takes c.requires.over
