use Rattle.std.proofs.Common.{[], ◌∷◌, true, List}
use Rattle.std.specs.Prelude.{Err}
use Rattle.ix_model.specs.declared.commands.Command.TheVariants.{Begin, End}
use Rattle.ix_model.specs.declared.commands.TimedCommand.{TimedCommand}
use Rattle.ix_pass.specs.Giving.{Went, kind, change}
use Rattle.ix_watch.specs.Watching.{channel_of}
use Rattle.ix_pass.proofs.Going.{tried_on, tried_short, tried_some}
use Rattle.ix_pass.specs.Visiting.{is_whole}
use Rattle.ix_pass.proofs.opening.begin_anew.Goals as goal

pub returns-in-Ok : goal.returns-in-Ok
returns-in-Ok g c = rw c.if-not-is_open.false
    (tried_some (is_whole c.begin-in-Ok.result) (End (channel_of c.args.file.now.path)
    ∷ Begin (channel_of c.args.file.now.path) c.args.file.now.meta ∷ [])
    (g.C.Clock.ahead c.args.clock.now) (g.C.Clock.ahead c.begin-in-Ok.new.clock)
    (λ (orders : List TimedCommand). Went g.D.Disk (kind g.M.StoreMemory.is_chooser g.M.StoreMemory.takes g.M.Book.ManifestState.fits
    g.M.StoreMemory.holds) c.begin-in-Ok.result orders (change c.args.store.now c.args.disk.now c.begin-in-Ok.new.store
    c.begin-in-Ok.new.disk))
    (tried_on g.D.Disk g.M.StoreMemory.is_chooser g.M.StoreMemory.takes g.M.Book.ManifestState.fits g.M.StoreMemory.holds
    g.met.M.StoreMemory.ticks_are_taken true c.begin-in-Ok.result (End (channel_of c.args.file.now.path)
    ∷ []) (Begin (channel_of c.args.file.now.path) c.args.file.now.meta ∷ [])
    (g.C.Clock.ahead c.args.clock.now) (g.C.Clock.ahead c.end.new.clock) (g.C.Clock.ahead c.begin-in-Ok.new.clock) c.args.store.now
    c.end.new.store c.begin-in-Ok.new.store c.args.disk.now c.end.new.disk c.begin-in-Ok.new.disk
    c.in-Ok.ensures c.begin-in-Ok.ensures))

pub returns-in-Err : goal.returns-in-Err
returns-in-Err g c = rw c.if-not-is_open.false
    (tried_short true (End (channel_of c.args.file.now.path) ∷ []) (Begin (channel_of c.args.file.now.path) c.args.file.now.meta ∷ [])
    (g.C.Clock.ahead c.args.clock.now) (g.C.Clock.ahead c.end.new.clock)
    (λ (orders : List TimedCommand). Went g.D.Disk (kind g.M.StoreMemory.is_chooser g.M.StoreMemory.takes g.M.Book.ManifestState.fits
    g.M.StoreMemory.holds) (Err c.in-Err.fault) orders (change c.args.store.now c.args.disk.now c.end.new.store c.end.new.disk))
    c.in-Err.ensures)
