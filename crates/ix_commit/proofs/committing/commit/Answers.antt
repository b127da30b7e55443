use Rattle.std.proofs.Common.{rules, ◌≡◌, ◌≢◌, ◌∙◌, List, Option, Err, [], ◌∷◌, ◌++◌, length, refl, ap, subst, sym, inl, arith, le_trans}
use Rattle.ix_commit.proofs.Failing.{no_failure, no_damage, same_fault}
use Rattle.ix_commit.proofs.Settling.{loosely}
use Rattle.ix_disk.proofs.Runs.{nowhere, rose_later}
use Rattle.std.specs.Result.{is_err}
use Rattle.std.specs.Prelude.{All}
use Rattle.std.proofs.lemmas.List.Elements.{All-nil}
use Rattle.std.proofs.lemmas.Result.{err_from_is_err_and, IfOk-from_err}
use Rattle.ix_base.specs.declared.files.File.{File}
use Rattle.ix_base.specs.Told.{Told}
use Rattle.ix_disk.specs.Image.{Image, Stays}
use Rattle.ix_log.specs.Log.{IsAtEnd, file_of}
use Rattle.ix_log.specs.declared.log.Log.{Log}
use Rattle.ix_log.proofs.Elsewhere.{at_end_stays}
use Rattle.ix_manifest.specs.Book.{empty, replay, removals_in}
use Rattle.ix_manifest.specs.Root.{log_file}
use Rattle.ix_manifest.specs.Slots.{bytes_of, items_of}
use Rattle.ix_manifest.specs.declared.staged_item.StagedItem.{StagedItem}
use Rattle.ix_commit.specs.Contents.{Anyhow}
use Rattle.ix_commit.specs.Reads.{OrGone, IsGone}
use Rattle.ix_commit.specs.Snapshot.{log_of}
use Rattle.ix_commit.specs.declared.fault.CommitFault.TheVariants as faults
use Rattle.ix_commit.proofs.Reading.{told_same, told_anyhow, anyhow_same, root_elsewhere, root_no_log}
use Rattle.ix_commit.proofs.Resting.{idle_of, not_idle, idle_held, idle_images, asked_images, asked_comes, asked_held, asked_over}
use Rattle.ix_commit.proofs.committing.commit.Goals as goal

pub returns-then-not-is_staged-clause-images : goal.returns-then-not-is_staged-clause-images
returns-then-not-is_staged-clause-images g c = λ old new held.
    idle_images g.D.Disk g.B.ManifestState.fits c.args.committer.now c.args.disk.now old new held

pub returns-then-not-is_staged-clause-done : goal.returns-then-not-is_staged-clause-done
returns-then-not-is_staged-clause-done g c = λ old new held.
    let told = c.if-not-is_staged.true in
    let staged = c.is_staged.ensures in
    idle_held g.D.Disk g.B.ManifestState.fits c.args.committer.now c.args.disk.now old new (idle_of c.args.committer.now (search rules))
    held

pub returns-then-not-is_staged-clause-idle : goal.returns-then-not-is_staged-clause-idle
returns-then-not-is_staged-clause-idle g c =
    let told = c.if-not-is_staged.true in
    let staged = c.is_staged.ensures in
    idle_of c.args.committer.now (search rules)

pub returns-in_err-measure-clause-images : goal.returns-in_err-measure-clause-images
returns-in_err-measure-clause-images g c = λ old new held.
    asked_images g.D.Disk g.B.ManifestState.fits c.args.disk.now c.commit_staged.new.disk c.measure.new.disk old new
    (c.commit_staged.ensures.images old new held) c.measure.ensures.images

pub returns-clause-images : goal.returns-clause-images
returns-clause-images g c = λ old new held.
    asked_images g.D.Disk g.B.ManifestState.fits c.args.disk.now c.commit_staged.new.disk c.measure.new.disk old new
    (c.commit_staged.ensures.images old new held) c.measure.ensures.images

pub returns-in_err-measure-clause-comes : goal.returns-in_err-measure-clause-comes
returns-in_err-measure-clause-comes g c = asked_comes g.D.Disk g.B.ManifestState.fits c.args.disk.now c.commit_staged.new.disk
    c.measure.new.disk c.commit_staged.ensures.comes c.measure.ensures.images

pub returns-clause-comes : goal.returns-clause-comes
returns-clause-comes g c = asked_comes g.D.Disk g.B.ManifestState.fits c.args.disk.now c.commit_staged.new.disk c.measure.new.disk
    c.commit_staged.ensures.comes c.measure.ensures.images

pub returns-clause-done : goal.returns-clause-done
returns-clause-done g c = λ old new held.
    let idle = c.in_ok-commit_staged.ensures.idle in
    asked_held g.D.Disk g.B.ManifestState.fits c.commit_staged.new.committer c.measure.new.self c.commit_staged.new.disk c.measure.new.disk
    new
    c.in_ok-measure.ensures.logs
    (c.measure.ensures.parts ∙ idle.0) (c.measure.ensures.copies ∙ idle.1.0) (c.measure.ensures.slots
    ∙ idle.1.1) c.measure.ensures.images (c.in_ok-commit_staged.ensures.done old new held)

pub returns-clause-over : goal.returns-clause-over
returns-clause-over g c =
    asked_over g.D.Disk g.B.ManifestState.fits c.commit_staged.new.committer c.measure.new.self c.commit_staged.new.disk c.measure.new.disk
    c.in_ok-measure.ensures.logs c.measure.ensures.images c.in_ok-commit_staged.ensures.over

pub returns-then-not-is_staged-clause-told : goal.returns-then-not-is_staged-clause-told
returns-then-not-is_staged-clause-told g c = anyhow_same (g.D.Disk.seen c.args.disk.now) (g.D.Disk.seen c.args.disk.now) refl

pub returns-then-not-is_staged-clause-seen : goal.returns-then-not-is_staged-clause-seen
returns-then-not-is_staged-clause-seen g c = λ other apart ne.
    told_same (OrGone other) (λ a. inl refl) (g.D.Disk.seen c.args.disk.now) (g.D.Disk.seen c.args.disk.now) refl

pub returns-then-not-is_staged-clause-removed : goal.returns-then-not-is_staged-clause-removed
returns-then-not-is_staged-clause-removed g c = λ image told.
    let untrue = c.if-not-is_staged.true in
    let staged = c.is_staged.ensures in
    let idle = idle_of c.args.committer.now (search rules) in
    subst (λ (s : List StagedItem). All (IsGone (log_of c.args.committer.now) image) (removals_in (replay (items_of s) empty)))
    (sym idle.1.1)
    (All-nil (IsGone (log_of c.args.committer.now) image))

pub returns-in_err-commit_staged-clause-told : goal.returns-in_err-commit_staged-clause-told
returns-in_err-commit_staged-clause-told g c =
    let committer = c.args.committer.now in
    told_anyhow (OrGone (log_file 0)) (g.D.Disk.seen c.args.disk.now) (g.D.Disk.seen c.commit_staged.new.disk)
    (c.commit_staged.ensures.seen (log_file 0) (root_elsewhere committer.parts committer.copies)
    (root_no_log g.D.Disk committer c.args.disk.now c.requires))

pub returns-in_err-commit_staged-clause-sound : goal.returns-in_err-commit_staged-clause-sound
returns-in_err-commit_staged-clause-sound g c = λ old new held image told file at is.
    let p = err_from_is_err_and c.from_residual.result c.from_residual.ensures.1 in
    let p1 = p.1 in
    let p2 = p.2 in
    let w : c.commit_staged.result ≡ Err c.in_err-commit_staged.field-0.0 = c.in_err-commit_staged.was in
    let was : c.commit_staged.result ≡ Err (faults.Damaged file at) = cc in
    c.commit_staged.ensures.sound old new held image told file at was

pub returns-in_err-measure-clause-seen : goal.returns-in_err-measure-clause-seen
returns-in_err-measure-clause-seen g c = λ other apart ne.
    subst (λ (now : Option Image). Told (OrGone other) (g.D.Disk.seen c.args.disk.now) now) (sym c.measure.ensures.same)
    (c.commit_staged.ensures.seen other apart ne)

pub returns-in_err-measure-clause-told : goal.returns-in_err-measure-clause-told
returns-in_err-measure-clause-told g c =
    let committer = c.args.committer.now in
    told_anyhow (OrGone (log_file 0)) (g.D.Disk.seen c.args.disk.now) (g.D.Disk.seen c.measure.new.disk)
    (returns-in_err-measure-clause-seen g c (log_file 0) (root_elsewhere committer.parts committer.copies)
    (root_no_log g.D.Disk committer c.args.disk.now c.requires))

pub returns-clause-seen : goal.returns-clause-seen
returns-clause-seen g c = λ other apart ne.
    subst (λ (now : Option Image). Told (OrGone other) (g.D.Disk.seen c.args.disk.now) now) (sym c.measure.ensures.same)
    (c.commit_staged.ensures.seen other apart ne)

pub returns-clause-told : goal.returns-clause-told
returns-clause-told g c =
    let committer = c.args.committer.now in
    told_anyhow (OrGone (log_file 0)) (g.D.Disk.seen c.args.disk.now) (g.D.Disk.seen c.measure.new.disk)
    (returns-clause-seen g c (log_file 0) (root_elsewhere committer.parts committer.copies)
    (root_no_log g.D.Disk committer c.args.disk.now c.requires))

pub returns-clause-removed : goal.returns-clause-removed
returns-clause-removed g c = λ image told. c.in_ok-commit_staged.ensures.removed image (sym c.measure.ensures.same ∙ told)

pub returns-then-not-is_staged-clause-body : goal.returns-then-not-is_staged-clause-body
returns-then-not-is_staged-clause-body g c = λ bodies end some.
    let untrue = c.if-not-is_staged.true in
    let staged = c.is_staged.ensures in
    let idle = idle_of c.args.committer.now (search rules) in
    absurd (omega (arith, some, ap length idle.1.1))

pub returns-clause-body : goal.returns-clause-body
returns-clause-body g c = λ bodies end some.
    let all = bodies ++ bytes_of c.args.committer.now.slots ∷ [] in
    let put = c.in_ok-commit_staged.ensures.body bodies end some in
    let stays = at_end_stays g.D.Disk c.commit_staged.new.disk c.measure.new.disk c.commit_staged.new.committer.log all Stays
    (λ a b same. ap (λ (image : Image). image (file_of c.commit_staged.new.committer.log)) same) c.measure.ensures.images put in
    subst (λ (l : Log). IsAtEnd g.D.Disk l c.measure.new.disk all) (sym c.measure.ensures.file) stays

pub returns-then-not-is_staged-clause-measured : goal.returns-then-not-is_staged-clause-measured
returns-then-not-is_staged-clause-measured g c = λ measured. measured (returns-then-not-is_staged-clause-idle g c)

pub returns-then-not-is_staged-clause-comes : goal.returns-then-not-is_staged-clause-comes
returns-then-not-is_staged-clause-comes g c = loosely g.D.Disk c.args.disk.now c.args.disk.now _ (nowhere g.D.Disk c.args.disk.now)

pub returns-then-not-is_staged-clause-damaged : goal.returns-then-not-is_staged-clause-damaged
returns-then-not-is_staged-clause-damaged g c = λ file at is. absurd (no_failure _ _ is)

pub returns-then-not-is_staged-clause-cause : goal.returns-then-not-is_staged-clause-cause
returns-then-not-is_staged-clause-cause g c = λ is. absurd (no_failure _ _ is)

pub returns-then-not-is_staged-clause-sound : goal.returns-then-not-is_staged-clause-sound
returns-then-not-is_staged-clause-sound g c = λ old new held image told file at is. no_failure _ _ is

pub returns-in_err-commit_staged-clause-damaged : goal.returns-in_err-commit_staged-clause-damaged
returns-in_err-commit_staged-clause-damaged g c = λ file at is.
    c.commit_staged.ensures.damaged file at (same_fault c.commit_staged.result c.from_residual.result c.in_err-commit_staged.field-0.0
    (faults.Damaged file at) c.in_err-commit_staged.was c.from_residual.ensures.1 is)

pub returns-in_err-commit_staged-clause-cause : goal.returns-in_err-commit_staged-clause-cause
returns-in_err-commit_staged-clause-cause g c = λ is. c.commit_staged.ensures.cause
    (same_fault c.commit_staged.result c.from_residual.result c.in_err-commit_staged.field-0.0 faults.Disk c.in_err-commit_staged.was
    c.from_residual.ensures.1 is)

pub returns-in_err-measure-clause-cause : goal.returns-in_err-measure-clause-cause
returns-in_err-measure-clause-cause g c = λ is. rose_later _ _ _ c.commit_staged.ensures.later
    (c.measure.ensures.cause.failed (ap is_err c.in_err-measure.was))

pub returns-in_err-measure-clause-later : goal.returns-in_err-measure-clause-later
returns-in_err-measure-clause-later g c = le_trans c.commit_staged.ensures.later c.measure.ensures.cause.later

pub returns-in_err-measure-clause-file : goal.returns-in_err-measure-clause-file
returns-in_err-measure-clause-file g c = ap file_of c.measure.ensures.file ∙ c.commit_staged.ensures.file

pub returns-in_err-measure-clause-damaged : goal.returns-in_err-measure-clause-damaged
returns-in_err-measure-clause-damaged g c = λ file at is.
    absurd (no_damage c.from_residual-in_err-measure.result file at c.from_residual-in_err-measure.ensures.1 is)

pub returns-in_err-measure-clause-sound : goal.returns-in_err-measure-clause-sound
returns-in_err-measure-clause-sound g c = λ old new held image told file at is.
    no_damage c.from_residual-in_err-measure.result file at c.from_residual-in_err-measure.ensures.1 is

pub returns-in_err-measure-clause-done : goal.returns-in_err-measure-clause-done
returns-in_err-measure-clause-done g c = λ old new held.
    IfOk-from_err c.from_residual-in_err-measure.result _ c.from_residual-in_err-measure.ensures.0

pub returns-in_err-measure-clause-over : goal.returns-in_err-measure-clause-over
returns-in_err-measure-clause-over g c = IfOk-from_err c.from_residual-in_err-measure.result _ c.from_residual-in_err-measure.ensures.0

pub returns-in_err-measure-clause-idle : goal.returns-in_err-measure-clause-idle
returns-in_err-measure-clause-idle g c = IfOk-from_err c.from_residual-in_err-measure.result _ c.from_residual-in_err-measure.ensures.0

pub returns-in_err-measure-clause-body : goal.returns-in_err-measure-clause-body
returns-in_err-measure-clause-body g c = λ bodies end some.
    IfOk-from_err c.from_residual-in_err-measure.result _ c.from_residual-in_err-measure.ensures.0

pub returns-in_err-measure-clause-removed : goal.returns-in_err-measure-clause-removed
returns-in_err-measure-clause-removed g c = IfOk-from_err c.from_residual-in_err-measure.result _ c.from_residual-in_err-measure.ensures.0

pub returns-clause-idle : goal.returns-clause-idle
returns-clause-idle g c =
    let idle = c.in_ok-commit_staged.ensures.idle in
    (c.measure.ensures.parts ∙ idle.0, (c.measure.ensures.copies ∙ idle.1.0, c.measure.ensures.slots ∙ idle.1.1))

pub returns-clause-measured : goal.returns-clause-measured
returns-clause-measured g c = λ measured. c.in_ok-measure.ensures.measured

pub returns-clause-damaged : goal.returns-clause-damaged
returns-clause-damaged g c = λ file at is. absurd (no_failure _ _ is)

pub returns-clause-cause : goal.returns-clause-cause
returns-clause-cause g c = λ is. absurd (no_failure _ _ is)

pub returns-clause-sound : goal.returns-clause-sound
returns-clause-sound g c = λ old new held image told file at is. no_failure _ _ is

pub returns-clause-later : goal.returns-clause-later
returns-clause-later g c = le_trans c.commit_staged.ensures.later c.measure.ensures.cause.later

pub returns-clause-file : goal.returns-clause-file
returns-clause-file g c = ap file_of c.measure.ensures.file ∙ c.commit_staged.ensures.file

pub returns-clause-none : goal.returns-clause-none
returns-clause-none g c = λ idle. absurd (not_idle c.args.committer.now (c.is_staged.ensures.0 c.if-not-is_staged.false) idle)

pub returns-in_err-measure-clause-none : goal.returns-in_err-measure-clause-none
returns-in_err-measure-clause-none g c = λ idle. absurd
    (not_idle c.args.committer.now (c.is_staged.ensures.0 c.if-not-is_staged.false) idle)

pub returns-in_err-commit_staged-clause-none : goal.returns-in_err-commit_staged-clause-none
returns-in_err-commit_staged-clause-none g c = λ idle. absurd
    (not_idle c.args.committer.now (c.is_staged.ensures.0 c.if-not-is_staged.false) idle)
