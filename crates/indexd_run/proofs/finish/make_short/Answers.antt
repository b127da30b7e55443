use Rattle.std.proofs.Common.{◌≡◌, ◌∙◌, ap, sym, subst}
use Rattle.std.specs.Prelude.{Err}
use Rattle.ix_manifest.specs.declared.fault.CheckpointFault.{CheckpointFault}
use Rattle.indexd_run.specs.Shortened.{IsOfCheckpoint}
use Rattle.indexd_run.specs.Stops.{of_checkpoint, loses}
use Rattle.indexd_run.specs.declared.stop.Stop.{Stop}
use Rattle.indexd_run.specs.declared.stop.Stop.TheVariants as stops
use Rattle.indexd_run.proofs.Ending.{disk_of_checkpoint}
use Rattle.indexd_run.proofs.Shortening.{fault_is, fault_kept}
use Rattle.indexd_run.proofs.finish.make_short.Goals as goal

pub returns-in-Ok-clause-short : goal.returns-in-Ok-clause-short
returns-in-Ok-clause-short g c = c.in-Ok.ensures.short c.requires.measured

pub returns-in-Err-clause-held : goal.returns-in-Err-clause-held
returns-in-Err-clause-held g c = λ kept. c.in-Err.ensures.held (fault_kept c.in-Err.fault (ap loses (sym c.of_checkpoint.ensures) ∙ kept))

pub returns-in-Err-clause-faults : goal.returns-in-Err-clause-faults
returns-in-Err-clause-faults g c = subst (λ (stop : Stop). IsOfCheckpoint stop) (sym c.of_checkpoint.ensures) (fault_is c.in-Err.fault)

pub returns-in-Err-clause-cause : goal.returns-in-Err-clause-cause
returns-in-Err-clause-cause g c = λ is.
    let stop : of_checkpoint c.in-Err.fault ≡ stops.Disk = cc (is, c.of_checkpoint.ensures) in
    c.shorten.ensures.cause (c.in-Err.is ∙ ap (λ (f : CheckpointFault). Err f) (disk_of_checkpoint c.in-Err.fault stop))
