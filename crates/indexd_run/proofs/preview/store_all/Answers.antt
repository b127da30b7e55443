use Rattle.std.proofs.Common.{◌≡◌, length, refl, ap, ◌∙◌, inl}
use Rattle.std.specs.Prelude.{Err}
use Rattle.ix_commit.specs.declared.fault.CommitFault.TheVariants as commits
use Rattle.ix_run.specs.Storing.{joined}
use Rattle.ix_run.specs.declared.giving.GiveFault.TheVariants.{Commit}
use Rattle.ix_run.specs.declared.input.RunFault.{RunFault}
use Rattle.ix_run.specs.declared.input.RunFault.TheVariants as runs
use Rattle.indexd_run.specs.Stops.{of_run, is_output}
use Rattle.indexd_run.specs.Previews.{Fed}
use Rattle.indexd_run.specs.declared.stop.Stop.TheVariants as stops
use Rattle.indexd_run.proofs.Ending.{quiet_run, disk_of_run}
use Rattle.indexd_run.proofs.Feeding.{none_fed, none_taken, feeds, read_as, unfed_as}
use Rattle.indexd_run.proofs.Shortening.{uncut}
use Rattle.indexd_run.proofs.Tasks.{none_given}
use Rattle.indexd_run.proofs.Undamaged.{damaged_of_run}
use Rattle.indexd_run.proofs.preview.store_all.Goals as goal

pub returns-then-is_missing-clause-ends : goal.returns-then-is_missing-clause-ends
returns-then-is_missing-clause-ends g c = λ choose h base chooser taken hold.
    none_given g.D.Disk _ g.M.StoreMemory.holds choose h base c.args.store.now c.args.disk.now
    (Fed choose base h c.args.arrival.origin c.args.arrival.moment (Err stops.NotFound) (g.S.Source.left c.args.input.now)
    (g.S.Source.left c.args.input.now))
    (none_fed choose base h c.args.arrival.origin c.args.arrival.moment (g.S.Source.left c.args.input.now)
    (record {
      limits = c.limits.result.now;
      in_force = c.limits.ensures choose h base (length h) hold.old hold.staged;
      answers = cc (c.is_missing.ensures, c.if-is_missing.true);
    })) hold

pub returns-in-Ok-clause-ends : goal.returns-in-Ok-clause-ends
returns-in-Ok-clause-ends g c = λ choose h base chooser taken hold.
    let read = c.in-Ok.ensures.stored in
    feeds g.D.Disk _ c.args.store.now.run g.M.StoreMemory.holds choose h base c.store_input.new.store c.args.disk.now c.store_input.new.disk
    c.args.arrival.origin c.args.arrival.moment
    (g.S.Source.left c.args.input.now) (g.S.Source.left c.store_input.new.input) read.pieces (g.S.Source.faults c.args.input.now)
    (g.S.Source.faults c.store_input.new.input) read.sizes read.took read.read
    (record {
      limits = c.limits.result.now;
      in_force = c.limits.ensures choose h base (length h) hold.old hold.staged;
      answers = cc (c.is_missing.ensures, c.if-is_missing.false);
    })
    (read.done choose h base (length h) chooser taken hold)

pub returns-in-Err-clause-ends : goal.returns-in-Err-clause-ends
returns-in-Err-clause-ends g c = λ choose h base chooser taken hold.
    let read = c.in-Err.ensures.stored in
    unfed_as g.D.Disk _ c.args.store.now.run g.M.StoreMemory.holds choose h base c.store_input.new.store c.args.disk.now
    c.store_input.new.disk c.args.arrival.origin c.args.arrival.moment
    (g.S.Source.left c.args.input.now) (g.S.Source.left c.store_input.new.input) read.pieces (g.S.Source.faults c.args.input.now)
    (g.S.Source.faults c.store_input.new.input) read.sizes read.took c.in-Err.fault c.of_run.result c.of_run.ensures read.read
    (read.done choose h base (length h) chooser taken hold)

pub returns-then-is_missing-clause-read : goal.returns-then-is_missing-clause-read
returns-then-is_missing-clause-read g c = none_taken stops.NotFound (g.S.Source.left c.args.input.now) refl

pub returns-in-Ok-clause-read : goal.returns-in-Ok-clause-read
returns-in-Ok-clause-read g c = let read = c.in-Ok.ensures.stored in
    record { taken = joined read.pieces; took = read.took; read = read.read }

pub returns-in-Err-clause-read : goal.returns-in-Err-clause-read
returns-in-Err-clause-read g c =
    let read = c.in-Err.ensures.stored in
    record {
      taken = joined read.pieces;
      took = read.took;
      read = read_as c.in-Err.fault c.of_run.result (length (joined read.pieces)) (g.S.Source.left c.store_input.new.input)
          (g.S.Source.faults c.args.input.now) (g.S.Source.faults c.store_input.new.input) c.of_run.ensures read.read;
    }

pub returns-in-Err-clause-undamaged : goal.returns-in-Err-clause-undamaged
returns-in-Err-clause-undamaged g c = λ file at is choose h base chooser taken hold.
    let stop : of_run c.in-Err.fault ≡ stops.Damaged file at = cc (is, c.of_run.ensures) in
    let fault = damaged_of_run c.in-Err.fault file at stop in
    let was : c.store_input.result ≡ Err (runs.Given (Commit (commits.Damaged file at))) = cc (fault, c.in-Err.is) in
    c.store_input.ensures.undamaged file at was choose h base (length h) chooser taken hold

pub returns-in-Err-clause-rest : goal.returns-in-Err-clause-rest
returns-in-Err-clause-rest g c = λ kept. c.in-Err.ensures.rest (uncut c.in-Err.fault c.of_run.result c.of_run.ensures kept)
    c.requires.rest.measured

pub returns-in-Err-clause-quiet : goal.returns-in-Err-clause-quiet
returns-in-Err-clause-quiet g c = ap is_output c.of_run.ensures ∙ quiet_run c.in-Err.fault

pub returns-in-Err-clause-cause : goal.returns-in-Err-clause-cause
returns-in-Err-clause-cause g c = λ is.
    let stop : of_run c.in-Err.fault ≡ stops.Disk = cc (is, c.of_run.ensures) in
    c.store_input.ensures.cause (c.in-Err.is ∙ ap (λ (f : RunFault). Err f) (disk_of_run c.in-Err.fault stop))

pub returns-in-Err-clause-placed : goal.returns-in-Err-clause-placed
returns-in-Err-clause-placed g c = λ file at is image seen.
    let stop : of_run c.in-Err.fault ≡ stops.Damaged file at = cc (is, c.of_run.ensures) in
    let fault = damaged_of_run c.in-Err.fault file at stop in
    let was : c.store_input.result ≡ Err (runs.Given (Commit (commits.Damaged file at))) = cc (fault, c.in-Err.is) in
    inl (c.store_input.ensures.placed file at was image seen)
