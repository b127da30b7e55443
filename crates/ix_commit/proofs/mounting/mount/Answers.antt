use Rattle.std.proofs.Common.{◌≡◌, Err, ◌∙◌, le_trans}
use Rattle.std.proofs.lemmas.Result.{err_from_is_err_and, IfOk-weaker, on_ok_weaker}
use Rattle.ix_disk.proofs.Runs.{always_still, always_on, still_all, rose_later}
use Rattle.ix_commit.specs.Mounting.{KeepsOneOf}
use Rattle.ix_commit.specs.declared.mounting.MountFault.TheVariants as mounts
use Rattle.ix_commit.proofs.Pending.{pending_begun, pending_small, pending_full, pending_last}
use Rattle.ix_commit.proofs.Reading.{anyhow_same, anyhow_through}
use Rattle.ix_commit.proofs.mounting.mount.Goals as goal

pub returns-clause-images : goal.returns-clause-images
returns-clause-images g c = λ family least from to is keep.
    let first = c.args.disk.now in
    let mid = c.prepare_mount.new.disk in
    let P = KeepsOneOf g.B.ManifestState.fits least family from to in
    always_on g.D.Disk first mid c.finish_mount.new.disk P (always_still g.D.Disk first mid P c.prepare_mount.ensures.images keep)
    (c.finish_mount.ensures.images (g.B.ManifestState.stands c.prepare_mount.new.state) c.in_ok-pending.ensures.pending family least from to is
    (still_all g.D.Disk first mid P c.prepare_mount.ensures.images keep))

pub returns-in_err-pending-clause-images : goal.returns-in_err-pending-clause-images
returns-in_err-pending-clause-images g c = λ family least from to is keep.
    always_still g.D.Disk c.args.disk.now c.prepare_mount.new.disk (KeepsOneOf g.B.ManifestState.fits least family from to)
    c.prepare_mount.ensures.images keep

pub returns-clause-mounted : goal.returns-clause-mounted
returns-clause-mounted g c =
    let first = c.args.disk.now in
    let mid = c.prepare_mount.new.disk in
    let fits = g.B.ManifestState.fits in
    IfOk-weaker c.finish_mount.result _ _ (λ committer held family least from to is keep image told.
    held family least from to is (still_all g.D.Disk first mid (KeepsOneOf fits least family from to) c.prepare_mount.ensures.images keep) image
    (c.prepare_mount.ensures.same ∙ told))
    (c.finish_mount.ensures.mounted (g.B.ManifestState.stands c.prepare_mount.new.state) c.in_ok-pending.ensures.pending)

pub returns-clause-measured : goal.returns-clause-measured
returns-clause-measured g c = c.finish_mount.ensures.measured (g.B.ManifestState.stands c.prepare_mount.new.state)
    c.in_ok-pending.ensures.pending

pub returns-clause-removed : goal.returns-clause-removed
returns-clause-removed g c = c.finish_mount.ensures.removed (g.B.ManifestState.stands c.prepare_mount.new.state)
    c.in_ok-pending.ensures.pending

pub returns-clause-grown : goal.returns-clause-grown
returns-clause-grown g c =
    IfOk-weaker c.finish_mount.result _ _ (λ committer grown first second told told_last.
    grown first second (c.prepare_mount.ensures.same ∙ told) told_last)
    (c.finish_mount.ensures.grown (g.B.ManifestState.stands c.prepare_mount.new.state) c.in_ok-pending.ensures.pending)

pub returns-clause-read : goal.returns-clause-read
returns-clause-read g c =
    let mid = c.prepare_mount.new.disk in
    let is = c.in_ok-pending.ensures.pending in
    on_ok_weaker c.finish_mount.result (λ some image told.
    pending_begun g.D.Disk g.B.ManifestState.fits c.in_ok-pending.pending mid (g.B.ManifestState.stands c.prepare_mount.new.state) is
    (is.room some) image (g.met.D.Disk.seen_may_stay mid image (c.prepare_mount.ensures.same ∙ told)))
    c.finish_mount.ensures.begun

pub returns-clause-not_full : goal.returns-clause-not_full
returns-clause-not_full g c =
    let is = c.in_ok-pending.ensures.pending in
    on_ok_weaker c.finish_mount.result (λ some.
    pending_small g.D.Disk g.B.ManifestState.fits c.in_ok-pending.pending c.prepare_mount.new.disk
    (g.B.ManifestState.stands c.prepare_mount.new.state) is (is.room some))
    c.finish_mount.ensures.begun

pub returns-clause-full : goal.returns-clause-full
returns-clause-full g c = λ full.
    let is = c.in_ok-pending.ensures.pending in
    pending_last g.D.Disk g.B.ManifestState.fits c.in_ok-pending.pending c.prepare_mount.new.disk
    (g.B.ManifestState.stands c.prepare_mount.new.state) is (is.none (c.finish_mount.ensures.full full))

pub returns-clause-full_as_read : goal.returns-clause-full_as_read
returns-clause-full_as_read g c = λ full image told.
    let is = c.in_ok-pending.ensures.pending in
    let mid = c.prepare_mount.new.disk in
    pending_full g.D.Disk g.B.ManifestState.fits c.in_ok-pending.pending mid (g.B.ManifestState.stands c.prepare_mount.new.state) is
    (is.none (c.finish_mount.ensures.full full)) image (g.met.D.Disk.seen_may_stay mid image (c.prepare_mount.ensures.same ∙ told))

pub returns-clause-damaged : goal.returns-clause-damaged
returns-clause-damaged g c = λ named at is image told.
    absurd (c.finish_mount.ensures.undamaged (g.B.ManifestState.stands c.prepare_mount.new.state) c.in_ok-pending.ensures.pending named at is)

pub returns-clause-told : goal.returns-clause-told
returns-clause-told g c =
    let first = g.D.Disk.seen c.args.disk.now in
    let mid = g.D.Disk.seen c.prepare_mount.new.disk in
    anyhow_through first mid (g.D.Disk.seen c.finish_mount.new.disk) (anyhow_same first mid c.prepare_mount.ensures.same)
    c.finish_mount.ensures.told

pub returns-in_err-pending-clause-told : goal.returns-in_err-pending-clause-told
returns-in_err-pending-clause-told g c = anyhow_same (g.D.Disk.seen c.args.disk.now) (g.D.Disk.seen c.prepare_mount.new.disk)
    c.prepare_mount.ensures.same

pub returns-clause-later : goal.returns-clause-later
returns-clause-later g c = le_trans c.prepare_mount.ensures.later c.finish_mount.ensures.later

pub returns-clause-cause : goal.returns-clause-cause
returns-clause-cause g c = λ is. rose_later _ _ _ c.prepare_mount.ensures.later (c.finish_mount.ensures.cause is)

pub returns-in_err-pending-clause-damaged : goal.returns-in_err-pending-clause-damaged
returns-in_err-pending-clause-damaged g c = λ named at is.
    let p = err_from_is_err_and c.from_residual.result c.from_residual.ensures.1 in
    let p1 = p.1 in
    let p2 = p.2 in
    let w : c.prepare_mount.result ≡ Err c.in_err-pending.field-0.0 = c.in_err-pending.was in
    let was : c.prepare_mount.result ≡ Err (mounts.Damaged named at) = cc in
    c.prepare_mount.ensures.damaged named at was
