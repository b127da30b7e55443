use Rattle.std.proofs.Common.{subst, Err, refl, ap, ◌∙◌}
use Rattle.ix_commit.proofs.Failing.{no_failure, damage_no_disk, disk_no_loss, apart_none}
use Rattle.ix_commit.specs.declared.fault.CommitFault.TheVariants as faults
use Rattle.ix_commit.specs.Copies.{target}
use Rattle.ix_disk.proofs.Others.{apart_same}
use Rattle.ix_base.specs.Told.{Told}
use Rattle.ix_base.specs.declared.files.File.{File}
use Rattle.ix_disk.specs.Image.{Image, Apart}
use Rattle.ix_disk.specs.Moments.{ImagesStep}
use Rattle.ix_archive.specs.Copies.{HasCopy}
use Rattle.ix_commit.proofs.FreeFiles.{copy_holds}
use Rattle.ix_commit.proofs.Reading.{copy_there}
use Rattle.ix_commit.proofs.copying.copy_one.Goals as goal

pub returns-in-Ok-clause-copied : goal.returns-in-Ok-clause-copied
returns-in-Ok-clause-copied g c = λ old now is had.
    let images = subst (λ (f : File). ImagesStep g.D.Disk c.args.disk.now c.copy.new.disk (Apart f)) c.target-to.ensures
    c.copy.ensures.images in
    copy_holds g.D.Disk old now c.args.disk.now c.copy.new.disk c.args.copied is images
    (λ image told. g.met.D.Disk.seen_may_stay c.args.disk.now image told) had
    (subst (λ (f : File). (image : Image) → g.D.Disk.may_leave c.copy.new.disk image →
    HasCopy g.D.Disk c.args.disk.now c.args.copied.from f c.args.copied.len image) c.target-to.ensures c.in-Ok.ensures.copied)

pub returns-in-Ok-clause-images : goal.returns-in-Ok-clause-images
returns-in-Ok-clause-images g c = subst (λ (f : File). ImagesStep g.D.Disk c.args.disk.now c.copy.new.disk (Apart f)) c.target-to.ensures
    c.copy.ensures.images

pub returns-in-Ok-clause-seen : goal.returns-in-Ok-clause-seen
returns-in-Ok-clause-seen g c = subst (λ (f : File). Told (Apart f) (g.D.Disk.seen c.args.disk.now) (g.D.Disk.seen c.copy.new.disk))
    c.target-to.ensures c.copy.ensures.seen

pub returns-in-Ok-clause-later : goal.returns-in-Ok-clause-later
returns-in-Ok-clause-later g c = c.copy.ensures.later

pub returns-in-Err-Disk-clause-images : goal.returns-in-Err-Disk-clause-images
returns-in-Err-Disk-clause-images g c = subst (λ (f : File). ImagesStep g.D.Disk c.args.disk.now c.copy.new.disk (Apart f))
    c.target-to.ensures c.copy.ensures.images

pub returns-in-Err-Disk-clause-seen : goal.returns-in-Err-Disk-clause-seen
returns-in-Err-Disk-clause-seen g c = subst (λ (f : File). Told (Apart f) (g.D.Disk.seen c.args.disk.now) (g.D.Disk.seen c.copy.new.disk))
    c.target-to.ensures c.copy.ensures.seen

pub returns-in-Err-Disk-clause-later : goal.returns-in-Err-Disk-clause-later
returns-in-Err-Disk-clause-later g c = c.copy.ensures.later

pub returns-in-Err-Short-clause-images : goal.returns-in-Err-Short-clause-images
returns-in-Err-Short-clause-images g c = subst (λ (f : File). ImagesStep g.D.Disk c.args.disk.now c.copy.new.disk (Apart f))
    c.target-to.ensures c.copy.ensures.images

pub returns-in-Err-Short-clause-seen : goal.returns-in-Err-Short-clause-seen
returns-in-Err-Short-clause-seen g c = subst (λ (f : File). Told (Apart f) (g.D.Disk.seen c.args.disk.now) (g.D.Disk.seen c.copy.new.disk))
    c.target-to.ensures c.copy.ensures.seen

pub returns-in-Err-Short-clause-later : goal.returns-in-Err-Short-clause-later
returns-in-Err-Short-clause-later g c = c.copy.ensures.later

pub returns-in-Ok-clause-cause : goal.returns-in-Ok-clause-cause
returns-in-Ok-clause-cause g c = λ is. absurd (no_failure _ _ is)

pub returns-in-Ok-clause-sound : goal.returns-in-Ok-clause-sound
returns-in-Ok-clause-sound g c = λ old now is had image told file at fault. no_failure _ _ fault

pub returns-then-eq-clause-cause : goal.returns-then-eq-clause-cause
returns-then-eq-clause-cause g c = λ is. absurd (no_failure _ _ is)

pub returns-then-eq-clause-sound : goal.returns-then-eq-clause-sound
returns-then-eq-clause-sound g c = λ old now is had image told file at fault. no_failure _ _ fault

pub returns-then-eq-clause-images : goal.returns-then-eq-clause-images
returns-then-eq-clause-images g c = apart_none g.D.Disk c.args.disk.now (target c.args.copied)

pub returns-then-eq-clause-seen : goal.returns-then-eq-clause-seen
returns-then-eq-clause-seen g c = apart_same (target c.args.copied) (g.D.Disk.seen c.args.disk.now) (g.D.Disk.seen c.args.disk.now) refl

pub returns-in-Err-Disk-clause-cause : goal.returns-in-Err-Disk-clause-cause
returns-in-Err-Disk-clause-cause g c = λ is. c.copy.ensures.cause (c.in-Err-Disk.is ∙ ap (λ e. Err e) c.in-Err-Disk.field-0-is)

pub returns-in-Err-Disk-clause-sound : goal.returns-in-Err-Disk-clause-sound
returns-in-Err-Disk-clause-sound g c = λ old now is had image told file at fault. disk_no_loss file at fault

pub returns-in-Err-Disk-clause-damaged : goal.returns-in-Err-Disk-clause-damaged
returns-in-Err-Disk-clause-damaged g c = λ file at fault. absurd (disk_no_loss file at fault)

pub returns-in-Err-Short-clause-cause : goal.returns-in-Err-Short-clause-cause
returns-in-Err-Short-clause-cause g c = λ is. absurd (damage_no_disk c.args.copied.from c.in-Err-Short.at is)
