use Rattle.std.proofs.Common.{◌≡◌, ◌≢◌, List, get_or, take, arith, refl, subst, sym, Err}
use Rattle.std.proofs.lemmas.Result.{err_from_is_err_and}
use Rattle.std.proofs.lemmas.List.{take_all}
use Rattle.ix_base.specs.declared.files.Area.TheVariants.{Meta}
use Rattle.ix_manifest.specs.Root.{log_file}
use Rattle.ix_commit.specs.Contents.{Filling, HoldsFilling, Keeping}
use Rattle.ix_commit.specs.declared.fault.CommitFault.TheVariants as faults
use Rattle.ix_commit.specs.Copies.{target, after_copies}
use Rattle.ix_commit.specs.declared.file_copy.FileCopy.{FileCopy}
use Rattle.ix_commit.proofs.FreeFiles.{copy_run, copy_at, copies_more, no_meta}
use Rattle.ix_commit.proofs.Settling.{keeping_on, no_log}
use Rattle.ix_commit.specs.declared.file_copy.CopyTarget.TheVariants.{Cold}
use Rattle.ix_commit.proofs.Reading.{copies_seen, told_on, every}
use Rattle.ix_commit.proofs.copying.copy_all.Goals as goal

abbrev none : FileCopy
none = record { from = record { area = Meta; number = 0 }; place = Cold; number = 0; len = 0 }

pub returns-in_err-copy_one-clause-images : goal.returns-in_err-copy_one-clause-images
returns-in_err-copy_one-clause-images g c = λ log old now meta are.
    let is = copy_at old now c.args.copies.now c.loop-one.one-index none c.loop-one-test.true are in
    copy_run g.D.Disk log old _ c.args.disk.now c.loop-one.disk c.copy_one.new.disk _ meta is
    (c.loop-one.invariant.run log old now meta are) c.copy_one.ensures.images

pub returns-in_err-copy_one-clause-logs : goal.returns-in_err-copy_one-clause-logs
returns-in_err-copy_one-clause-logs g c = λ log meta.
    keeping_on g.D.Disk log c.args.disk.now c.loop-one.disk c.copy_one.new.disk _
    (λ a b apart. apart log (no_log log (target (get_or c.args.copies.now c.loop-one.one-index none)) meta
    (no_meta (get_or c.args.copies.now c.loop-one.one-index none)))) (c.loop-one.invariant.logs log meta) c.copy_one.ensures.images

pub loop-one-preserved : goal.loop-one-preserved
loop-one-preserved g c =
    let copies = c.args.copies.now in
    let i = c.loop-one.one-index in
    record {
      run = λ log old now meta are.
          let is = copy_at old now copies i none c.loop-one-test.true are in
          copy_run g.D.Disk log old _ c.args.disk.now c.loop-one.disk c.copy_one.new.disk _ meta is
          (c.loop-one.invariant.run log old now meta are) c.copy_one.ensures.images;
      done = λ old now are had.
          let is = copy_at old now copies i none c.loop-one-test.true are in
          subst (λ (f : Filling). HoldsFilling g.D.Disk c.copy_one.new.disk f) (sym (copies_more copies i none now c.loop-one-test.true))
          (c.in_ok-copy_one.ensures.copied old (after_copies (take i copies) now) is (c.loop-one.invariant.done old now are had));
      logs = λ log meta. keeping_on g.D.Disk log c.args.disk.now c.loop-one.disk c.copy_one.new.disk _
          (λ a b apart. apart log (no_log log (target (get_or c.args.copies.now c.loop-one.one-index none)) meta
          (no_meta (get_or c.args.copies.now c.loop-one.one-index none)))) (c.loop-one.invariant.logs log meta) c.copy_one.ensures.images;
      seen = λ other apart. copies_seen copies i none c.loop-one-test.true other apart (g.D.Disk.seen c.args.disk.now)
          (g.D.Disk.seen c.loop-one.disk) (g.D.Disk.seen c.copy_one.new.disk) (c.loop-one.invariant.seen other apart)
          c.copy_one.ensures.seen;
      later = omega (arith, c.loop-one.invariant.later, c.copy_one.ensures.later);
    }

pub returns-clause-copied : goal.returns-clause-copied
returns-clause-copied g c = λ old now are had.
    subst (λ (l : List FileCopy). HoldsFilling g.D.Disk c.loop-one.disk (after_copies l now))
    (take_all c.loop-one.one-index c.args.copies.now c.loop-one-test.false) (c.loop-one.invariant.done old now are had)

pub returns-in_err-copy_one-clause-seen : goal.returns-in_err-copy_one-clause-seen
returns-in_err-copy_one-clause-seen g c = λ other apart.
    copies_seen c.args.copies.now c.loop-one.one-index none c.loop-one-test.true other apart (g.D.Disk.seen c.args.disk.now)
    (g.D.Disk.seen c.loop-one.disk) (g.D.Disk.seen c.copy_one.new.disk) (c.loop-one.invariant.seen other apart) c.copy_one.ensures.seen

pub returns-in_err-copy_one-clause-sound : goal.returns-in_err-copy_one-clause-sound
returns-in_err-copy_one-clause-sound g c = λ old now are had image told file at is.
    let copies = c.args.copies.now in
    let i = c.loop-one.one-index in
    let root = c.loop-one.invariant.seen (log_file 0) (every (λ (x : FileCopy). log_file 0 ≢ target x)
    (λ x. no_log (log_file 0) (target x) refl (no_meta x)) copies) in
    let on = told_on (Keeping (log_file 0)) (g.D.Disk.seen c.args.disk.now) (g.D.Disk.seen c.loop-one.disk) root image told in
    let one = copy_at old now copies i none c.loop-one-test.true are in
    let p = err_from_is_err_and c.from_residual.result c.from_residual.ensures.1 in
    let p1 = p.1 in
    let p2 = p.2 in
    let w : c.copy_one.result ≡ Err c.in_err-copy_one.field-0.0 = c.in_err-copy_one.was in
    let was : c.copy_one.result ≡ Err (faults.Damaged file at) = cc in
    c.copy_one.ensures.sound old (after_copies (take i copies) now) one (c.loop-one.invariant.done old now are had) on.0 on.1 file at was
