use Rattle.std.proofs.Common.{refl}
use Rattle.std.proofs.lemmas.Result.{IfOk-from_err}
use Rattle.ix_disk.proofs.Passing.{cause_own, passes_none, fails_here, cause_inner, fails_not}
use Rattle.ix_disk.proofs.one_fail.OneFailDisk.read.Goals as goal

pub returns-in_err-pass : goal.returns-in_err-pass
returns-in_err-pass g c = record {
  count = IfOk-from_err c.from_residual.result _ c.from_residual.ensures.0;
  bytes = IfOk-from_err c.from_residual.result _ c.from_residual.ensures.0;
  same = refl;
  images = passes_none g.D.Disk.may_leave g.D.Disk.moment g.D.Disk.left_since c.args.self.now.inner _ (λ image. refl);
  cause = cause_own (g.D.Disk.faults c.args.self.now.inner) c.args.self.now.faults c.pass.new.faults c.from_residual.result
      c.pass.ensures.cause.later (c.in_err-pass.ensures.cause.failed refl);
  lock = (refl, refl);
  fails = fails_here g.D.Disk.faults c.args.self.now.before c.pass.new.before c.args.self.now.inner c.from_residual.result
      c.pass.ensures.counted c.in_err-pass.ensures.failed c.from_residual.ensures.0;
}

pub returns : goal.returns
returns g c = record {
  count = c.read.ensures.count;
  bytes = c.read.ensures.bytes;
  same = c.read.ensures.same;
  images = c.read.ensures.images;
  cause = cause_inner (g.D.Disk.faults c.args.self.now.inner) (g.D.Disk.faults c.read.new.self) c.args.self.now.faults c.pass.new.faults
      c.read.result c.in_ok-pass.ensures.passed.1 c.read.ensures.cause;
  lock = (refl, c.read.ensures.lock.1);
  fails = fails_not g.D.Disk.faults c.args.self.now.before c.pass.new.before c.args.self.now.inner c.read.new.self c.read.result
      c.pass.ensures.counted c.in_ok-pass.ensures.passed.0 c.read.ensures.cause;
}
