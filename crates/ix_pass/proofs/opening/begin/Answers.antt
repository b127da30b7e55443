use Rattle.std.proofs.Common.{rules, List}
use Rattle.std.proofs.lemmas.Int.{to_z-of_z}
use mir.Val.{SFits}
use Rattle.std.specs.Int.{w64}
use Rattle.ix_model.specs.declared.commands.Command.TheVariants.{Begin}
use Rattle.ix_model.specs.declared.commands.TimedCommand.{TimedCommand}
use Rattle.ix_pass.specs.Giving.{Went, kind, change}
use Rattle.ix_watch.specs.Watching.{channel_of}
use Rattle.ix_pass.proofs.Going.{tried_one}
use Rattle.ix_pass.proofs.opening.begin.Goals as goal

pub returns : goal.returns
returns g c =
    let fits : SFits w64 c.now-moment.result = search rules in
    let command = Begin (channel_of c.args.file.now.path) c.args.file.now.meta in
    tried_one command c.now-moment.result (g.C.Clock.ahead c.args.clock.now) (g.C.Clock.ahead c.now-moment.new.self)
    (λ (orders : List TimedCommand). Went g.D.Disk (kind g.M.StoreMemory.is_chooser g.M.StoreMemory.takes g.M.Book.ManifestState.fits
    g.M.StoreMemory.holds) c.give_made.result orders (change c.args.store.now c.args.disk.now c.give_made.new.store
    c.give_made.new.disk))
    c.now-moment.ensures ((simp to_z-of_z at (c.give_made.ensures command c.begin_made-made.ensures))
    (c.requires.takes c.now-moment.result))
