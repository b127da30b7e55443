use Rattle.std.proofs.Common.{◌≡◌, Err, refl, ◌∙◌}
use Rattle.std.proofs.lemmas.Result.{err_from_is_err_and}
use Rattle.ix_manifest.specs.Root.{log_file}
use Rattle.ix_commit.specs.Contents.{Keeping}
use Rattle.ix_commit.specs.declared.fault.CommitFault.TheVariants as faults
use Rattle.ix_commit.proofs.Settling.{spares_through, keeping_on}
use Rattle.ix_commit.proofs.Reading.{told_through, told_on, root_elsewhere}
use Rattle.ix_commit.proofs.committing.fill.Goals as goal

pub returns-in_err-copy_all-clause-images : goal.returns-in_err-copy_all-clause-images
returns-in_err-copy_all-clause-images g c = λ log old grown meta parts copies.
    spares_through g.D.Disk log old c.args.disk.now c.settle_all.new.disk c.copy_all.new.disk
    (c.settle_all.ensures.images log old grown meta parts) (c.copy_all.ensures.images log old grown meta copies)

pub returns-clause-images : goal.returns-clause-images
returns-clause-images g c = λ log old grown meta parts copies.
    spares_through g.D.Disk log old c.args.disk.now c.settle_all.new.disk c.copy_all.new.disk
    (c.settle_all.ensures.images log old grown meta parts) (c.copy_all.ensures.images log old grown meta copies)

pub returns-clause-filled : goal.returns-clause-filled
returns-clause-filled g c = λ log old grown meta parts copies had.
    c.in_ok-copy_all.ensures.copied old grown copies (c.in_ok-settle_all.ensures.settled log old grown meta parts had)

pub returns-in_err-copy_all-clause-logs : goal.returns-in_err-copy_all-clause-logs
returns-in_err-copy_all-clause-logs g c = λ log meta. keeping_on g.D.Disk log c.args.disk.now c.settle_all.new.disk c.copy_all.new.disk _
    (λ a b same. same) (c.settle_all.ensures.logs log meta) (c.copy_all.ensures.logs log meta)

pub returns-clause-logs : goal.returns-clause-logs
returns-clause-logs g c = λ log meta. keeping_on g.D.Disk log c.args.disk.now c.settle_all.new.disk c.copy_all.new.disk _ (λ a b same. same)
    (c.settle_all.ensures.logs log meta) (c.copy_all.ensures.logs log meta)

pub returns-in_err-settle_all-clause-images : goal.returns-in_err-settle_all-clause-images
returns-in_err-settle_all-clause-images g c = λ log old grown meta parts copies. c.settle_all.ensures.images log old grown meta parts

pub returns-in_err-settle_all-clause-seen : goal.returns-in_err-settle_all-clause-seen
returns-in_err-settle_all-clause-seen g c = λ other apart. c.settle_all.ensures.seen other apart.0

pub returns-in_err-copy_all-clause-seen : goal.returns-in_err-copy_all-clause-seen
returns-in_err-copy_all-clause-seen g c = λ other apart.
    told_through (Keeping other) (Keeping other) (Keeping other) (λ a b c one two. two
    ∙ one) (g.D.Disk.seen c.args.disk.now) (g.D.Disk.seen c.settle_all.new.disk) (g.D.Disk.seen c.copy_all.new.disk)
    (c.settle_all.ensures.seen other apart.0) (c.copy_all.ensures.seen other apart.1)

pub returns-clause-seen : goal.returns-clause-seen
returns-clause-seen g c = λ other apart.
    told_through (Keeping other) (Keeping other) (Keeping other) (λ a b c one two. two
    ∙ one) (g.D.Disk.seen c.args.disk.now) (g.D.Disk.seen c.settle_all.new.disk) (g.D.Disk.seen c.copy_all.new.disk)
    (c.settle_all.ensures.seen other apart.0) (c.copy_all.ensures.seen other apart.1)

pub returns-in_err-settle_all-clause-sound : goal.returns-in_err-settle_all-clause-sound
returns-in_err-settle_all-clause-sound g c = λ log old grown meta parts copies had image told file at is.
    let p = err_from_is_err_and c.from_residual.result c.from_residual.ensures.1 in
    let p1 = p.1 in
    let p2 = p.2 in
    let w : c.settle_all.result ≡ Err c.in_err-settle_all.field-0.0 = c.in_err-settle_all.was in
    let was : c.settle_all.result ≡ Err (faults.Damaged file at) = cc in
    c.settle_all.ensures.sound log old grown meta parts had image told file at was

pub returns-in_err-copy_all-clause-sound : goal.returns-in_err-copy_all-clause-sound
returns-in_err-copy_all-clause-sound g c = λ log old grown meta parts copies had image told file at is.
    let on = told_on (Keeping (log_file 0)) (g.D.Disk.seen c.args.disk.now) (g.D.Disk.seen c.settle_all.new.disk)
    (c.settle_all.ensures.seen (log_file 0) (root_elsewhere c.args.parts.now c.args.copies.now).0) image told in
    let p = err_from_is_err_and c.from_residual-in_err-copy_all.result c.from_residual-in_err-copy_all.ensures.1 in
    let p1 = p.1 in
    let p2 = p.2 in
    let w : c.copy_all.result ≡ Err c.in_err-copy_all.field-0.0 = c.in_err-copy_all.was in
    let was : c.copy_all.result ≡ Err (faults.Damaged file at) = cc in
    c.copy_all.ensures.sound old grown copies (c.in_ok-settle_all.ensures.settled log old grown meta parts had) on.0 on.1 file at was
