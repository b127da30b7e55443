use Rattle.std.proofs.Common.{length, true, ◌≡◌, ◌∙◌, ℕ, [], List, refl, subst, sym}
use Rattle.ix_model.specs.declared.commands.TimedCommand.{TimedCommand}
use Rattle.ix_run.specs.Running.{outset}
use Rattle.ix_run.proofs.Stored.{all_taken}
use Rattle.indexd_run.specs.Ends.{Ends}
use Rattle.indexd_run.specs.Stops.{loses, loses_in}
use Rattle.indexd_run.proofs.Shortening.{ends_short, short_stood, ends_behind, gave_taken}
use Rattle.indexd_run.proofs.Tasks.{none_given, on_ok_by, at_ok, if_err_by, at_err, at_stop}
use Rattle.indexd_run.proofs.export.export.Goals as goal

pub returns-in-Ok-clause-ends : goal.returns-in-Ok-clause-ends
returns-in-Ok-clause-ends g c = λ choose h base chooser taken hold.
    ends_behind g.D.Disk _ c.args.store.now.run g.M.StoreMemory.holds choose h base c.write_lines.new.store c.args.disk.now
    c.make_short.new.disk c.write_lines.new.disk (loses_in c.write_lines.result)
    (short_stood g.D.Disk _ c.args.store.now.run g.M.StoreMemory.holds g.M.StoreMemory.takes choose h base c.args.store.now
    c.make_short.new.store c.args.disk.now c.args.disk.now c.make_short.new.disk
    refl (c.make_short.ensures.images choose h base chooser taken hold))
    (subst (λ (run : ℕ). Ends (loses_in c.write_lines.result) g.D.Disk g.M.Book.ManifestState.fits g.M.StoreMemory.holds
    (outset choose h base (length h) run c.make_short.new.disk) (λ (orders : List TimedCommand). orders ≡ []) c.write_lines.new.store
    c.write_lines.new.disk)
    c.make_short.ensures.run (c.write_lines.ensures.ends choose h base (c.in-Ok.ensures.held refl choose h base chooser taken hold)))

pub returns-in-Ok-clause-fine : goal.returns-in-Ok-clause-fine
returns-in-Ok-clause-fine g c = on_ok_by c.write_lines.result _ (λ done is. λ choose h base chooser taken hold.
    at_ok c.write_lines.result done _ is c.write_lines.ensures.fine choose h base
    (c.in-Ok.ensures.held refl choose h base chooser taken hold))

pub returns-in-Ok-clause-why : goal.returns-in-Ok-clause-why
returns-in-Ok-clause-why g c = if_err_by c.write_lines.result _ (λ stop is. λ choose h base chooser taken hold.
    at_err c.write_lines.result stop _ is c.write_lines.ensures.why choose h base
    (c.in-Ok.ensures.held refl choose h base chooser taken hold))

pub returns-in-Ok-clause-lines : goal.returns-in-Ok-clause-lines
returns-in-Ok-clause-lines g c = on_ok_by c.write_lines.result _ (λ done is. λ choose h base chooser taken hold.
    at_ok c.write_lines.result done _ is c.write_lines.ensures.lines choose h base chooser taken
    (c.in-Ok.ensures.held refl choose h base chooser taken hold))

pub returns-in-Ok-clause-begun : goal.returns-in-Ok-clause-begun
returns-in-Ok-clause-begun g c = if_err_by c.write_lines.result _ (λ stop is. λ choose h base chooser taken hold.
    at_stop c.write_lines.result stop _ is c.write_lines.ensures.begun choose h base chooser taken
    (c.in-Ok.ensures.held refl choose h base chooser taken hold))

pub returns-in-Ok-clause-undamaged : goal.returns-in-Ok-clause-undamaged
returns-in-Ok-clause-undamaged g c = λ file at is choose h base chooser taken hold.
    c.write_lines.ensures.undamaged file at is choose h base chooser taken (c.in-Ok.ensures.held refl choose h base chooser taken hold)

pub returns-in-Ok-clause-short : goal.returns-in-Ok-clause-short
returns-in-Ok-clause-short g c = λ ok image seen. c.in-Ok.ensures.short image (sym c.write_lines.ensures.same ∙ seen)

pub returns-in-Err-clause-ends : goal.returns-in-Err-clause-ends
returns-in-Err-clause-ends g c = λ choose h base chooser taken hold.
    ends_short g.D.Disk _ c.args.store.now.run g.M.StoreMemory.holds g.M.StoreMemory.takes choose h base c.args.store.now
    c.make_short.new.store c.args.disk.now c.args.disk.now c.make_short.new.disk
    c.make_short.ensures.run (λ now all held. c.make_short.ensures.images choose now base chooser all held) (loses c.in-Err.stop)
    (λ (orders : List TimedCommand). orders ≡ []) (λ (orders : List TimedCommand). orders ≡ []) (λ orders is. is)
    (λ orders is. all_taken g.M.StoreMemory.takes g.met.M.StoreMemory.ticks_are_taken choose h orders taken
    (gave_taken g.M.StoreMemory.takes true [] orders tt is))
    (λ kept now all held. c.in-Err.ensures.held kept choose now base chooser all held)
    (none_given g.D.Disk _ g.M.StoreMemory.holds choose h base c.args.store.now c.args.disk.now
    (λ (orders : List TimedCommand). orders ≡ []) refl hold)

pub returns-in-Ok-clause-placed : goal.returns-in-Ok-clause-placed
returns-in-Ok-clause-placed g c = c.write_lines.ensures.placed
