use Rattle.std.proofs.Common.{◌≡◌, ◌≢◌, arith, refl, Err}
use Rattle.std.proofs.lemmas.Result.{err_from_is_err_and}
use Rattle.ix_manifest.specs.Root.{log_file}
use Rattle.ix_commit.specs.Contents.{Keeping}
use Rattle.ix_commit.specs.Parts.{file_in}
use Rattle.ix_commit.specs.declared.fault.CommitFault.TheVariants as faults
use Rattle.ix_commit.specs.declared.staged_append.StagedAppend.{StagedAppend}
use Rattle.ix_commit.proofs.Settling.{keeping_on, home_no_log, part_at, settle_run, settle_more, spared, settled_all}
use Rattle.ix_commit.proofs.Reading.{parts_seen, part_there, told_on, every}
use Rattle.ix_commit.proofs.staged_append.settle_all.Goals as goal

pub returns-in_err-settle-clause-images : goal.returns-in_err-settle-clause-images
returns-in_err-settle-clause-images g c = λ log old new meta are.
    let part = c.part-item.result in
    let is = part_at old new c.args.parts.now c.loop-part.part-index part c.loop-part-test.true c.part-item.is are in
    settle_run g.D.Disk log old new meta c.args.disk.now c.loop-part.disk c.settle.new.disk part is c.settle.ensures.images
    (c.loop-part.invariant.run log old new meta are)

pub returns-in_err-settle-clause-logs : goal.returns-in_err-settle-clause-logs
returns-in_err-settle-clause-logs g c = λ log meta.
    keeping_on g.D.Disk log c.args.disk.now c.loop-part.disk c.settle.new.disk _
    (λ a b behind. behind.others log (home_no_log log (file_in c.part-item.result) meta refl)) (c.loop-part.invariant.logs log meta)
    c.settle.ensures.images

pub loop-part-preserved : goal.loop-part-preserved
loop-part-preserved g c =
    let part = c.part-item.result in
    let first = c.args.disk.now in
    let mid = c.loop-part.disk in
    let next = c.settle.new.disk in
    let parts = c.args.parts.now in
    let i = c.loop-part.part-index in
    record {
      run = λ log old new meta are.
          let is = part_at old new parts i part c.loop-part-test.true c.part-item.is are in
          settle_run g.D.Disk log old new meta first mid next part is c.settle.ensures.images
          (c.loop-part.invariant.run log old new meta are);
      done = λ log old new meta are had.
          let is = part_at old new parts i part c.loop-part-test.true c.part-item.is are in
          let run = settle_run g.D.Disk log old new meta first mid next part is c.settle.ensures.images
          (c.loop-part.invariant.run log old new meta are) in
          settle_more g.D.Disk log old new meta first mid next part is c.settle.ensures.images parts i c.loop-part-test.true c.part-item.is
          (spared g.D.Disk log old first next run had) c.in_ok-settle.ensures.appended
          (c.loop-part.invariant.done log old new meta are had);
      logs = λ log meta. keeping_on g.D.Disk log first mid next _
          (λ a b behind. behind.others log (home_no_log log (file_in part) meta refl)) (c.loop-part.invariant.logs log meta)
          c.settle.ensures.images;
      seen = λ other apart. parts_seen parts i part c.loop-part-test.true c.part-item.is other apart (g.D.Disk.seen first)
          (g.D.Disk.seen mid) (g.D.Disk.seen next) (c.loop-part.invariant.seen other apart) c.settle.ensures.seen;
      later = omega (arith, c.loop-part.invariant.later, c.settle.ensures.later);
    }

pub returns-clause-settled : goal.returns-clause-settled
returns-clause-settled g c = λ log old new meta are had.
    settled_all g.D.Disk log old new meta c.loop-part.disk c.args.parts.now c.loop-part.part-index c.loop-part-test.false are
    (spared g.D.Disk log old c.args.disk.now c.loop-part.disk (c.loop-part.invariant.run log old new meta are) had)
    (c.loop-part.invariant.done log old new meta are had)

pub returns-in_err-settle-clause-seen : goal.returns-in_err-settle-clause-seen
returns-in_err-settle-clause-seen g c = λ other apart.
    parts_seen c.args.parts.now c.loop-part.part-index c.part-item.result c.loop-part-test.true c.part-item.is other apart
    (g.D.Disk.seen c.args.disk.now) (g.D.Disk.seen c.loop-part.disk) (g.D.Disk.seen c.settle.new.disk)
    (c.loop-part.invariant.seen other apart) c.settle.ensures.seen

pub returns-in_err-settle-clause-sound : goal.returns-in_err-settle-clause-sound
returns-in_err-settle-clause-sound g c = λ log old new meta are had image told file at is.
    let parts = c.args.parts.now in
    let part = c.part-item.result in
    let first = c.args.disk.now in
    let mid = c.loop-part.disk in
    let root = c.loop-part.invariant.seen (log_file 0) (every (λ (p : StagedAppend). log_file 0 ≢ file_in p)
    (λ p. home_no_log (log_file 0) (file_in p) refl refl) parts) in
    let on = told_on (Keeping (log_file 0)) (g.D.Disk.seen first) (g.D.Disk.seen mid) root image told in
    let there = part_there g.D.Disk (λ i d t. g.met.D.Disk.seen_may_stay d i t) old new mid parts c.loop-part.part-index part
    c.loop-part-test.true c.part-item.is are
    (spared g.D.Disk log old first mid (c.loop-part.invariant.run log old new meta are) had) on.0 on.1 in
    let p = err_from_is_err_and c.from_residual.result c.from_residual.ensures.1 in
    let p1 = p.1 in
    let p2 = p.2 in
    let w : c.settle.result ≡ Err c.in_err-settle.field-0.0 = c.in_err-settle.was in
    let was : c.settle.result ≡ Err (faults.Damaged file at) = cc in
    c.settle.ensures.sound on.0 on.1 there file at was
