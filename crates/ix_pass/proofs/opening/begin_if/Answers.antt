use Rattle.std.proofs.Common.{List}
use Rattle.std.specs.Prelude.{Ok}
use Rattle.ix_model.specs.declared.commands.TimedCommand.{TimedCommand}
use Rattle.ix_pass.specs.Giving.{Went, kind, change}
use Rattle.ix_pass.proofs.Going.{tried_none, went_none}
use Rattle.ix_pass.proofs.opening.begin_if.Goals as goal

pub returns-then-is_open : goal.returns-then-is_open
returns-then-is_open g c = rw c.if-is_open.true (tried_none (g.C.Clock.ahead c.args.clock.now)
    (λ (orders : List TimedCommand). Went g.D.Disk (kind g.M.StoreMemory.is_chooser g.M.StoreMemory.takes g.M.Book.ManifestState.fits
    g.M.StoreMemory.holds) (Ok tt) orders (change c.args.store.now c.args.disk.now c.args.store.now c.args.disk.now))
    (went_none g.D.Disk g.M.StoreMemory.is_chooser g.M.StoreMemory.takes g.M.Book.ManifestState.fits g.M.StoreMemory.holds
    g.met.M.StoreMemory.ticks_are_taken c.args.store.now c.args.disk.now c.requires.over))
