use Rattle.std.proofs.Common.{refl, length}
use Rattle.std.proofs.lemmas.Result.{IfOk-from_err}
use Rattle.ix_base.proofs.ToldLemmas.{on_err_always}
use Rattle.ix_disk.proofs.Kept.{as_it_was}
use Rattle.ix_disk.proofs.Passing.{cause_own, passes_none, image_stays, fails_here, cause_inner, fails_not}
use Rattle.ix_disk.proofs.one_fail.OneFailDisk.write_at.Goals as goal

pub returns-in_err-pass : goal.returns-in_err-pass
returns-in_err-pass g c = record {
  written = IfOk-from_err c.from_residual.result _ c.from_residual.ensures.0;
  begun = on_err_always c.from_residual.result (image_stays _ (g.D.Disk.seen c.args.self.now.inner)
      (as_it_was c.args.at (length c.args.bytes.now) c.args.file));
  bounded = IfOk-from_err c.from_residual.result _ c.from_residual.ensures.0;
  images = passes_none g.D.Disk.may_leave g.D.Disk.moment g.D.Disk.left_since c.args.self.now.inner _
      (as_it_was c.args.at (length c.args.bytes.now) c.args.file);
  cause = cause_own (g.D.Disk.faults c.args.self.now.inner) c.args.self.now.faults c.pass.new.faults c.from_residual.result
      c.pass.ensures.cause.later (c.in_err-pass.ensures.cause.failed refl);
  lock = (refl, refl);
  fails = fails_here g.D.Disk.faults c.args.self.now.before c.pass.new.before c.args.self.now.inner c.from_residual.result
      c.pass.ensures.counted c.in_err-pass.ensures.failed c.from_residual.ensures.0;
}

pub returns : goal.returns
returns g c = record {
  written = c.write_at.ensures.written;
  begun = c.write_at.ensures.begun;
  bounded = c.write_at.ensures.bounded;
  images = c.write_at.ensures.images;
  cause = cause_inner (g.D.Disk.faults c.args.self.now.inner) (g.D.Disk.faults c.write_at.new.self) c.args.self.now.faults c.pass.new.faults
      c.write_at.result c.in_ok-pass.ensures.passed.1 c.write_at.ensures.cause;
  lock = (refl, c.write_at.ensures.lock.1);
  fails = fails_not g.D.Disk.faults c.args.self.now.before c.pass.new.before c.args.self.now.inner c.write_at.new.self c.write_at.result
      c.pass.ensures.counted c.in_ok-pass.ensures.passed.0 c.write_at.ensures.cause;
}
