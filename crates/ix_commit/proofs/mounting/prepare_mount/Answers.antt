use Rattle.std.proofs.Common.{◌≡◌, Ok, Err, ap, ◌∙◌}
use Rattle.std.proofs.lemmas.Result.{err_from_is_err_and}
use Rattle.ix_commit.specs.declared.mounting.MountFault.TheVariants as mounts
use Rattle.ix_commit.proofs.Pending.{pending_over}
use Rattle.ix_commit.proofs.mounting.prepare_mount.Goals as goal

pub stage_run-requires : goal.stage_run-requires
stage_run-requires g c = let read = c.in_ok-committer.ensures.read in (read.no_parts, (read.no_copies, read.no_slots))

pub returns-clause-pending : goal.returns-clause-pending
returns-clause-pending g c =
    let read = c.in_ok-committer.ensures.read in
    record {
      book = g.B.ManifestState.stands c.read.new.state;
      as_read = c.in_ok-committer.committer;
      read = read;
      logs = c.stage_run.ensures.logs;
      no_parts = c.stage_run.ensures.parts ∙ read.no_parts;
      no_copies = c.stage_run.ensures.copies ∙ read.no_copies;
      removals = c.in-Ok.ensures ∙ c.removals.ensures;
      room = λ some. c.stage_run.ensures.begins (c.in_ok-has_room.was ∙ ap (λ t. Ok t) some);
      none = λ none. c.stage_run.ensures.none (c.in_ok-has_room.was ∙ ap (λ t. Ok t) none);
    }

pub returns-clause-over : goal.returns-clause-over
returns-clause-over g c =
    pending_over g.D.Disk g.B.ManifestState.fits _ c.read.new.disk (g.B.ManifestState.stands c.stage_run.new.state)
    (returns-clause-pending g c)

pub returns-in_err-committer-clause-damaged : goal.returns-in_err-committer-clause-damaged
returns-in_err-committer-clause-damaged g c = λ named at is.
    let p = err_from_is_err_and c.from_residual.result c.from_residual.ensures.1 in
    let p1 = p.1 in
    let p2 = p.2 in
    let w : c.read.result ≡ Err c.in_err-committer.field-0.0 = c.in_err-committer.was in
    let was : c.read.result ≡ Err (mounts.Damaged named at) = cc in
    c.read.ensures.damaged named at was
