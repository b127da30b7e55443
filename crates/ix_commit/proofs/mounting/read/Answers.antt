use Rattle.std.proofs.Common.{◌≡◌, Err, subst, ◌∙◌, le_trans}
use Rattle.ix_commit.proofs.Failing.{no_failure, one_fault, memory_no_full, memory_no_disk, memory_no_damage, same_mount}
use Rattle.ix_disk.proofs.Runs.{rose_later, stays_on}
use Rattle.std.proofs.lemmas.Result.{err_from_is_err_and}
use Rattle.ix_base.specs.declared.files.File.{File}
use Rattle.ix_disk.specs.Image.{bytes_in}
use Rattle.ix_manifest.specs.Book.{empty}
use Rattle.ix_manifest.specs.Replaying.{IsBadGate}
use Rattle.ix_manifest.specs.Root.{Taken}
use Rattle.ix_commit.specs.declared.mounting.MountFault.TheVariants as mounts
use Rattle.ix_commit.proofs.Beginning.{bad_current}
use Rattle.ix_commit.proofs.mounting.read.Goals as goal

pub returns-in_err-log-clause-damaged : goal.returns-in_err-log-clause-damaged
returns-in_err-log-clause-damaged g c = λ named at is image told.
    let p = err_from_is_err_and c.from_residual-in_err-log.result c.from_residual-in_err-log.ensures.1 in
    let p1 = p.1 in
    let p2 = p.2 in
    let w : c.read_current.result ≡ Err c.in_err-log.field-0.0 = c.in_err-log.was in
    let was : c.read_current.result ≡ Err (mounts.Damaged named at) = cc in
    let bad = c.read_current.ensures.damaged named at was in
    let mid = c.read_numbers.new.disk in
    let number = c.in_ok-root.number in
    let told_mid = c.read_numbers.ensures.same ∙ told in
    let file = c.log_file.ensures in
    bad_current g.D.Disk g.B.ManifestState.fits c.in_ok-root.root mid number image (g.met.D.Disk.seen_may_stay mid image told_mid)
    c.in_ok-root.ensures.file c.in_ok-root.ensures.read.0 c.in_ok-root.ensures.read.1 named at (bad.0 ∙ file)
    (subst (λ (f : File). IsBadGate (Taken g.B.ManifestState.fits f) empty at (bytes_in image f)) file (bad.1 image told_mid))

pub returns-in-Ok-clause-images : goal.returns-in-Ok-clause-images
returns-in-Ok-clause-images g c = stays_on g.D.Disk c.args.disk.now c.read_numbers.new.disk c.read_current.new.disk
    c.read_numbers.ensures.images c.read_current.ensures.images

pub returns-in-Ok-clause-same : goal.returns-in-Ok-clause-same
returns-in-Ok-clause-same g c = c.read_current.ensures.same ∙ c.read_numbers.ensures.same

pub returns-in-Ok-clause-later : goal.returns-in-Ok-clause-later
returns-in-Ok-clause-later g c = le_trans c.read_numbers.ensures.later c.read_current.ensures.later

pub returns-in-Err-clause-images : goal.returns-in-Err-clause-images
returns-in-Err-clause-images g c = stays_on g.D.Disk c.args.disk.now c.read_numbers.new.disk c.read_current.new.disk
    c.read_numbers.ensures.images c.read_current.ensures.images

pub returns-in-Err-clause-same : goal.returns-in-Err-clause-same
returns-in-Err-clause-same g c = c.read_current.ensures.same ∙ c.read_numbers.ensures.same

pub returns-in-Err-clause-later : goal.returns-in-Err-clause-later
returns-in-Err-clause-later g c = le_trans c.read_numbers.ensures.later c.read_current.ensures.later

pub returns-in_err-log-clause-images : goal.returns-in_err-log-clause-images
returns-in_err-log-clause-images g c = stays_on g.D.Disk c.args.disk.now c.read_numbers.new.disk c.read_current.new.disk
    c.read_numbers.ensures.images c.read_current.ensures.images

pub returns-in_err-log-clause-same : goal.returns-in_err-log-clause-same
returns-in_err-log-clause-same g c = c.read_current.ensures.same ∙ c.read_numbers.ensures.same

pub returns-in_err-log-clause-later : goal.returns-in_err-log-clause-later
returns-in_err-log-clause-later g c = le_trans c.read_numbers.ensures.later c.read_current.ensures.later

pub returns-in-Ok-clause-cause : goal.returns-in-Ok-clause-cause
returns-in-Ok-clause-cause g c = λ is. absurd (no_failure _ _ is)

pub returns-in-Ok-clause-damaged : goal.returns-in-Ok-clause-damaged
returns-in-Ok-clause-damaged g c = λ named at is image told. absurd (no_failure _ _ is)

pub returns-in-Ok-clause-not_full : goal.returns-in-Ok-clause-not_full
returns-in-Ok-clause-not_full g c = λ is. no_failure _ _ is

pub returns-in-Err-clause-cause : goal.returns-in-Err-clause-cause
returns-in-Err-clause-cause g c = λ is. absurd (memory_no_disk (one_fault mounts.NoMemory mounts.Disk is))

pub returns-in-Err-clause-damaged : goal.returns-in-Err-clause-damaged
returns-in-Err-clause-damaged g c = λ named at is image told.
    absurd (memory_no_damage named at (one_fault mounts.NoMemory (mounts.Damaged named at) is))

pub returns-in-Err-clause-not_full : goal.returns-in-Err-clause-not_full
returns-in-Err-clause-not_full g c = λ is. memory_no_full (one_fault mounts.NoMemory mounts.Full is)

pub returns-in_err-log-clause-cause : goal.returns-in_err-log-clause-cause
returns-in_err-log-clause-cause g c = λ is. rose_later _ _ _ c.read_numbers.ensures.later
    (c.read_current.ensures.cause (same_mount c.read_current.result c.from_residual-in_err-log.result c.in_err-log.field-0.0 mounts.Disk
    c.in_err-log.was c.from_residual-in_err-log.ensures.1 is))

pub returns-in_err-log-clause-not_full : goal.returns-in_err-log-clause-not_full
returns-in_err-log-clause-not_full g c = λ is. c.read_current.ensures.not_full
    (same_mount c.read_current.result c.from_residual-in_err-log.result c.in_err-log.field-0.0 mounts.Full c.in_err-log.was
    c.from_residual-in_err-log.ensures.1 is)
