use Rattle.std.proofs.Common.{subst, sym, ◌∙◌, le_trans}
use Rattle.std.specs.Prelude.{All}
use Rattle.std.proofs.lemmas.Result.{IfOk-from_err}
use Rattle.ix_base.specs.declared.files.File.{File}
use Rattle.ix_disk.specs.Moments.{ImagesStep}
use Rattle.ix_disk.proofs.Runs.{rose_later}
use Rattle.ix_commit.specs.Contents.{Contents, IsFree, Spares, KeepsLogs, filling}
use Rattle.ix_commit.specs.Reads.{Removing, ReadsNone}
use Rattle.ix_commit.specs.declared.mounting.MountFault.TheVariants as mounts
use Rattle.ix_commit.proofs.Failing.{no_failure, one_fault, full_no_disk, full_no_damage, disk_no_full, disk_no_damage, commit_disk, commit_lost}
use Rattle.ix_commit.proofs.Pending.{current_is, gone_images, then_images, then_mounted, then_grown, then_gone, pending_staged, none_short}
use Rattle.ix_commit.proofs.Reading.{told_anyhow, anyhow_through, if_ok}
use Rattle.ix_commit.proofs.Settling.{loosely}
use Rattle.ix_commit.proofs.mounting.finish_mount.Goals as goal

pub returns-then-is_err-clause-images : goal.returns-then-is_err-clause-images
returns-then-is_err-clause-images g c = λ now is family least from to is_family keep.
    let fits = g.B.ManifestState.fits in
    let mid = c.args.disk.now in
    let del = c.remove_all.new.disk in
    let there = c.log_file.ensures ∙ current_is g.D.Disk fits c.args.pending mid now is in
    let removed = subst (λ (f : File). (contents : Contents) → All (IsFree f contents) c.as_slice.result.now →
    ImagesStep g.D.Disk mid del (Spares f (filling contents))) there c.remove_all.ensures.images in
    gone_images g.D.Disk fits c.args.pending mid now is family least from to is_family keep
    (λ image disk told. g.met.D.Disk.seen_may_stay disk image told) c.as_slice.result.now c.as_slice.ensures del removed
    (loosely g.D.Disk mid del _ c.remove_all.ensures.logs)

pub returns-then-not-has_room-clause-images : goal.returns-then-not-has_room-clause-images
returns-then-not-has_room-clause-images g c = λ now is family least from to is_family keep.
    let fits = g.B.ManifestState.fits in
    let mid = c.args.disk.now in
    let del = c.remove_all.new.disk in
    let there = c.log_file.ensures ∙ current_is g.D.Disk fits c.args.pending mid now is in
    let removed = subst (λ (f : File). (contents : Contents) → All (IsFree f contents) c.as_slice.result.now →
    ImagesStep g.D.Disk mid del (Spares f (filling contents))) there c.remove_all.ensures.images in
    gone_images g.D.Disk fits c.args.pending mid now is family least from to is_family keep
    (λ image disk told. g.met.D.Disk.seen_may_stay disk image told) c.as_slice.result.now c.as_slice.ensures del removed
    (loosely g.D.Disk mid del _ c.remove_all.ensures.logs)

pub returns-clause-images : goal.returns-clause-images
returns-clause-images g c = λ now is family least from to is_family keep.
    let fits = g.B.ManifestState.fits in
    let mid = c.args.disk.now in
    let del = c.remove_all.new.disk in
    let there = c.log_file.ensures ∙ current_is g.D.Disk fits c.args.pending mid now is in
    let removed = subst (λ (f : File). (contents : Contents) → All (IsFree f contents) c.as_slice.result.now →
    ImagesStep g.D.Disk mid del (Spares f (filling contents))) there c.remove_all.ensures.images in
    then_images g.D.Disk fits c.args.pending mid now is (is.room c.if-not-has_room.false) family least from to is_family keep
    c.as_slice.result.now c.as_slice.ensures del removed
    (λ image disk told. g.met.D.Disk.seen_may_stay disk image told) (loosely g.D.Disk mid del _ c.remove_all.ensures.logs)
    c.commit.new.disk c.commit.ensures.images c.commit.ensures.comes

pub returns-in_err-commit-clause-images : goal.returns-in_err-commit-clause-images
returns-in_err-commit-clause-images g c = λ now is family least from to is_family keep.
    let fits = g.B.ManifestState.fits in
    let mid = c.args.disk.now in
    let del = c.remove_all.new.disk in
    let there = c.log_file.ensures ∙ current_is g.D.Disk fits c.args.pending mid now is in
    let removed = subst (λ (f : File). (contents : Contents) → All (IsFree f contents) c.as_slice.result.now →
    ImagesStep g.D.Disk mid del (Spares f (filling contents))) there c.remove_all.ensures.images in
    then_images g.D.Disk fits c.args.pending mid now is (is.room c.if-not-has_room.false) family least from to is_family keep
    c.as_slice.result.now c.as_slice.ensures del removed
    (λ image disk told. g.met.D.Disk.seen_may_stay disk image told) (loosely g.D.Disk mid del _ c.remove_all.ensures.logs)
    c.commit.new.disk c.commit.ensures.images c.commit.ensures.comes

pub returns-clause-mounted : goal.returns-clause-mounted
returns-clause-mounted g c = λ now is family least from to is_family keep image told.
    let fits = g.B.ManifestState.fits in
    let mid = c.args.disk.now in
    let del = c.remove_all.new.disk in
    let there = c.log_file.ensures ∙ current_is g.D.Disk fits c.args.pending mid now is in
    let removed = subst (λ (f : File). (contents : Contents) → All (IsFree f contents) c.as_slice.result.now →
    ImagesStep g.D.Disk mid del (Spares f (filling contents))) there c.remove_all.ensures.images in
    then_mounted g.D.Disk fits c.args.pending mid now is (is.room c.if-not-has_room.false) family least from to is_family keep
    c.as_slice.result.now c.as_slice.ensures del removed
    image (g.met.D.Disk.seen_may_stay mid image told) c.commit.new.committer c.commit.new.disk c.in_ok-commit.ensures.done

pub returns-clause-grown : goal.returns-clause-grown
returns-clause-grown g c = λ now is first second told told_last.
    let fits = g.B.ManifestState.fits in
    let mid = c.args.disk.now in
    let del = c.remove_all.new.disk in
    let there = c.log_file.ensures ∙ current_is g.D.Disk fits c.args.pending mid now is in
    let kept = subst (λ (f : File). ImagesStep g.D.Disk mid del (KeepsLogs f)) there c.remove_all.ensures.logs in
    then_grown g.D.Disk fits c.args.pending mid now is (is.room c.if-not-has_room.false)
    (λ image disk told. g.met.D.Disk.seen_may_stay disk image told) del kept c.commit.new.committer c.commit.new.disk
    c.in_ok-commit.ensures.body c.in_ok-commit.ensures.over c.commit.ensures.file first second told told_last

pub returns-clause-removed : goal.returns-clause-removed
returns-clause-removed g c = λ now is.
    let fits = g.B.ManifestState.fits in
    let mid = c.args.disk.now in
    let del = c.remove_all.new.disk in
    let gone = if_ok c.remove_all.result (ReadsNone g.D.Disk del c.log_file.result c.as_slice.result.now) (sym c.is_err.ensures.value
    ∙ c.if-is_err.false) c.remove_all.ensures.removed in
    then_gone g.D.Disk fits c.args.pending mid now is (is.room c.if-not-has_room.false) c.as_slice.result.now c.as_slice.ensures del c.commit.new.disk c.commit.new.committer
    c.commit.ensures.told c.commit.ensures.seen
    (subst (λ (f : File). ReadsNone g.D.Disk del f c.as_slice.result.now) c.log_file.ensures gone) c.commit.ensures.file

pub returns-clause-measured : goal.returns-clause-measured
returns-clause-measured g c = λ now is.
    c.in_ok-commit.ensures.measured (λ idle. absurd (pending_staged g.D.Disk g.B.ManifestState.fits c.args.pending c.args.disk.now now is
    (is.room c.if-not-has_room.false) idle))

pub returns-then-is_err-clause-told : goal.returns-then-is_err-clause-told
returns-then-is_err-clause-told g c = told_anyhow Removing (g.D.Disk.seen c.args.disk.now) (g.D.Disk.seen c.remove_all.new.disk)
    c.remove_all.ensures.seen

pub returns-then-not-has_room-clause-told : goal.returns-then-not-has_room-clause-told
returns-then-not-has_room-clause-told g c = told_anyhow Removing (g.D.Disk.seen c.args.disk.now) (g.D.Disk.seen c.remove_all.new.disk)
    c.remove_all.ensures.seen

pub returns-clause-told : goal.returns-clause-told
returns-clause-told g c =
    let start = g.D.Disk.seen c.args.disk.now in
    let del = g.D.Disk.seen c.remove_all.new.disk in
    anyhow_through start del (g.D.Disk.seen c.commit.new.disk) (told_anyhow Removing start del c.remove_all.ensures.seen)
    c.commit.ensures.told

pub returns-in_err-commit-clause-told : goal.returns-in_err-commit-clause-told
returns-in_err-commit-clause-told g c =
    let start = g.D.Disk.seen c.args.disk.now in
    let del = g.D.Disk.seen c.remove_all.new.disk in
    anyhow_through start del (g.D.Disk.seen c.commit.new.disk) (told_anyhow Removing start del c.remove_all.ensures.seen)
    c.commit.ensures.told

-- ---- nothing more is said of a removal that failed, and of a run that has no room

pub returns-then-is_err-clause-later : goal.returns-then-is_err-clause-later
returns-then-is_err-clause-later g c = c.remove_all.ensures.cause.later

pub returns-then-is_err-clause-cause : goal.returns-then-is_err-clause-cause
returns-then-is_err-clause-cause g c = λ is. c.remove_all.ensures.cause.failed (sym c.is_err.ensures.value ∙ c.if-is_err.true)

pub returns-then-is_err-clause-full : goal.returns-then-is_err-clause-full
returns-then-is_err-clause-full g c = λ is. absurd (disk_no_full (one_fault mounts.Disk mounts.Full is))

pub returns-then-is_err-clause-undamaged : goal.returns-then-is_err-clause-undamaged
returns-then-is_err-clause-undamaged g c = λ now is named at err.
    disk_no_damage named at (one_fault mounts.Disk (mounts.Damaged named at) err)

pub returns-then-not-has_room-clause-later : goal.returns-then-not-has_room-clause-later
returns-then-not-has_room-clause-later g c = c.remove_all.ensures.cause.later

pub returns-then-not-has_room-clause-cause : goal.returns-then-not-has_room-clause-cause
returns-then-not-has_room-clause-cause g c = λ is. absurd (full_no_disk (one_fault mounts.Full mounts.Disk is))

pub returns-then-not-has_room-clause-full : goal.returns-then-not-has_room-clause-full
returns-then-not-has_room-clause-full g c = λ is. c.if-not-has_room.true

pub returns-then-not-has_room-clause-undamaged : goal.returns-then-not-has_room-clause-undamaged
returns-then-not-has_room-clause-undamaged g c = λ now is named at err.
    full_no_damage named at (one_fault mounts.Full (mounts.Damaged named at) err)

-- ---- a commit that failed

pub returns-in_err-commit-clause-mounted : goal.returns-in_err-commit-clause-mounted
returns-in_err-commit-clause-mounted g c = λ now is. IfOk-from_err c.from_residual.result _
    c.from_residual.ensures.0

pub returns-in_err-commit-clause-over : goal.returns-in_err-commit-clause-over
returns-in_err-commit-clause-over g c = IfOk-from_err c.from_residual.result _ c.from_residual.ensures.0

pub returns-in_err-commit-clause-idle : goal.returns-in_err-commit-clause-idle
returns-in_err-commit-clause-idle g c = IfOk-from_err c.from_residual.result _ c.from_residual.ensures.0

pub returns-in_err-commit-clause-measured : goal.returns-in_err-commit-clause-measured
returns-in_err-commit-clause-measured g c = λ now is. IfOk-from_err c.from_residual.result _
    c.from_residual.ensures.0

pub returns-in_err-commit-clause-grown : goal.returns-in_err-commit-clause-grown
returns-in_err-commit-clause-grown g c = λ now is. IfOk-from_err c.from_residual.result _
    c.from_residual.ensures.0

pub returns-in_err-commit-clause-removed : goal.returns-in_err-commit-clause-removed
returns-in_err-commit-clause-removed g c = λ now is. IfOk-from_err c.from_residual.result _
    c.from_residual.ensures.0

pub returns-in_err-commit-clause-begun : goal.returns-in_err-commit-clause-begun
returns-in_err-commit-clause-begun g c = IfOk-from_err c.from_residual.result _ c.from_residual.ensures.0

pub returns-in_err-commit-clause-later : goal.returns-in_err-commit-clause-later
returns-in_err-commit-clause-later g c = le_trans c.remove_all.ensures.cause.later c.commit.ensures.later

pub returns-in_err-commit-clause-cause : goal.returns-in_err-commit-clause-cause
returns-in_err-commit-clause-cause g c = λ is. rose_later _ _ _ c.remove_all.ensures.cause.later
    (c.commit.ensures.cause (commit_disk c.commit.result c.from_residual.result c.in_err-commit.field-0.0 c.in_err-commit.was
    c.from_residual.ensures.1 is))

pub returns-in_err-commit-clause-undamaged : goal.returns-in_err-commit-clause-undamaged
returns-in_err-commit-clause-undamaged g c = λ now is named at err.
    let lost = c.commit.ensures.damaged named at (commit_lost c.commit.result c.from_residual.result c.in_err-commit.field-0.0
    named at c.in_err-commit.was c.from_residual.ensures.1 err) in
    none_short c.args.pending.committer.parts c.args.pending.committer.copies named at is.no_parts is.no_copies lost.0

-- ---- the run has begun

pub returns-clause-begun : goal.returns-clause-begun
returns-clause-begun g c = c.if-not-has_room.false

pub returns-clause-over : goal.returns-clause-over
returns-clause-over g c = c.in_ok-commit.ensures.over

pub returns-clause-idle : goal.returns-clause-idle
returns-clause-idle g c = c.in_ok-commit.ensures.idle

pub returns-clause-later : goal.returns-clause-later
returns-clause-later g c = le_trans c.remove_all.ensures.cause.later c.commit.ensures.later

pub returns-clause-cause : goal.returns-clause-cause
returns-clause-cause g c = λ is. absurd (no_failure _ _ is)

pub returns-clause-full : goal.returns-clause-full
returns-clause-full g c = λ is. absurd (no_failure _ _ is)

pub returns-clause-undamaged : goal.returns-clause-undamaged
returns-clause-undamaged g c = λ now is named at err. no_failure _ _ err
