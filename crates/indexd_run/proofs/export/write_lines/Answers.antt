use Rattle.std.proofs.Common.{◌≡◌, ◌∙◌, ℕ, false, List, subst, refl, sym, length, inr}
use Rattle.std.specs.Prelude.{Err}
use Rattle.ix_base.specs.Told.{HasWritten, HasBegun}
use Rattle.ix_export.specs.Lines.{text}
use Rattle.ix_model.specs.Step.{state_after}
use Rattle.ix_store.specs.Exporting.{is_seen, exported}
use Rattle.ix_store.specs.declared.fault.ExportFault.TheVariants as exports
use Rattle.indexd_run.specs.Stops.{of_export}
use Rattle.indexd_run.specs.declared.stop.Stop.TheVariants as stops
use Rattle.indexd_run.proofs.Exports.{left_as_was, stopped_as, unexported, seen_by}
use Rattle.indexd_run.proofs.Undamaged.{damaged_of_export}
use Rattle.indexd_run.proofs.export.write_lines.Goals as goal

pub returns-in-Ok-clause-ends : goal.returns-in-Ok-clause-ends
returns-in-Ok-clause-ends g c = λ choose h base hold.
    left_as_was g.D.Disk _ g.M.StoreMemory.holds choose h base c.args.store.now c.export.new.self c.args.disk.now c.export.new.disk
    c.export.ensures.run hold c.in-Ok.ensures.images (c.in-Ok.ensures.held refl choose h base (length h) hold)

pub returns-in-Ok-clause-lines : goal.returns-in-Ok-clause-lines
returns-in-Ok-clause-lines g c = λ choose h base chooser taken hold image seen.
    subst (λ (name : List ℕ). HasWritten (text c.args.range.now (exported (state_after choose h) name)) (g.W.Sink.given c.args.output.now)
    (g.W.Sink.given c.export.new.out))
    c.as_bytes.ensures.value (c.in-Ok.ensures.lines choose h base image chooser taken hold (sym c.in-Ok.ensures.same ∙ seen))

pub returns-in-Ok-clause-fine : goal.returns-in-Ok-clause-fine
returns-in-Ok-clause-fine g c = λ choose h base hold. seen_by (is_seen (state_after choose h) c.args.index.now)
    (λ unseen. let e = (c.in-Ok.ensures.unknown choose h base (length h) hold.old hold.staged).1 (cc (unseen, c.as_bytes.ensures.value)) in
    cc)

pub returns-in-Err-clause-begun : goal.returns-in-Err-clause-begun
returns-in-Err-clause-begun g c = λ choose h base chooser taken hold image seen.
    subst (λ (name : List ℕ). HasBegun (text c.args.range.now (exported (state_after choose h) name)) (g.W.Sink.given c.args.output.now)
    (g.W.Sink.given c.export.new.out))
    c.as_bytes.ensures.value (c.in-Err.ensures.begun choose h base image chooser taken hold (sym c.in-Err.ensures.same ∙ seen))

pub returns-in-Err-clause-why : goal.returns-in-Err-clause-why
returns-in-Err-clause-why g c = λ choose h base hold.
    unexported g.D.Disk _ g.M.StoreMemory.holds choose h base c.args.store.now c.export.new.self c.args.disk.now c.export.new.disk
    c.args.index.now c.of_export.result c.in-Err.fault c.of_export.ensures
    hold (λ is. c.in-Err.ensures.closed.0 (cc (is)))
    (λ is. subst (λ (name : List ℕ). is_seen (state_after choose h) name ≡ false) c.as_bytes.ensures.value
    ((c.in-Err.ensures.unknown choose h base (length h) hold.old hold.staged).0 (cc (is))))

pub returns-in-Err-clause-ends : goal.returns-in-Err-clause-ends
returns-in-Err-clause-ends g c = λ choose h base hold.
    stopped_as g.D.Disk _ g.M.StoreMemory.holds choose h base c.args.store.now c.export.new.self c.args.disk.now c.export.new.disk
    c.of_export.result c.in-Err.fault c.export.ensures.run c.of_export.ensures
    hold c.in-Err.ensures.images (λ safe. c.in-Err.ensures.held safe choose h base (length h) hold)

pub returns-in-Err-clause-undamaged : goal.returns-in-Err-clause-undamaged
returns-in-Err-clause-undamaged g c = λ file at is choose h base chooser taken hold image seen.
    let stop : of_export c.in-Err.fault ≡ stops.Damaged file at = cc (is, c.of_export.ensures) in
    let fault = damaged_of_export c.in-Err.fault file at stop in
    let was : c.export.result ≡ Err (exports.Damaged file at) = cc (fault, c.in-Err.is) in
    c.export.ensures.sound file at was choose h base image chooser taken hold (sym c.export.ensures.same ∙ seen)

pub returns-in-Err-clause-placed : goal.returns-in-Err-clause-placed
returns-in-Err-clause-placed g c = λ file at is image seen.
    let stop : of_export c.in-Err.fault ≡ stops.Damaged file at = cc (is, c.of_export.ensures) in
    let fault = damaged_of_export c.in-Err.fault file at stop in
    let was : c.export.result ≡ Err (exports.Damaged file at) = cc (fault, c.in-Err.is) in
    let bad = c.export.ensures.bad file at was image (sym c.export.ensures.same ∙ seen) in
    inr (g.M.StoreMemory.shown c.args.store.now.memory, (c.as_bytes.result.now, bad))
