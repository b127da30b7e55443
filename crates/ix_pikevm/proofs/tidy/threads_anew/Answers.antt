use Rattle.std.proofs.Common.{◌≡◌, ◌+◌, ◌*◌, ◌≤◌, le_of_eq, length, refl, sym, subst, arith, take}
use lib.Seq.{take_all}
use Rattle.std.proofs.lemmas.Result.{IfOk-from_err}
use Rattle.ix_pikevm.specs.Tidied.{AreAnew}
use Rattle.ix_pikevm.proofs.TidyLemmas.{anew-grown, anew-push, narrow-at, take-next, times-more}
use Rattle.ix_pikevm.proofs.tidy.threads_anew.Goals as goal

pub loop-at-preserved : goal.loop-at-preserved
loop-at-preserved c =
    record {
      threads = subst (λ l. AreAnew c.args.old.now l c.trail_anew.new.cells.items c.push.new.self.items)
          (sym (take-next c.args.threads.now c.loop-at.at c.thread_at-thread.result c.thread_at-thread.ensures))
          (subst (AreAnew c.args.old.now _ c.trail_anew.new.cells.items) (sym c.in_ok-push.ensures.items)
          (anew-push c.args.old.now (take c.loop-at.at c.args.threads.now) c.trail_anew.new.cells.items c.loop-at.anew.items
          c.thread_at-thread.result _
          (anew-grown c.args.old.now (take c.loop-at.at c.args.threads.now) c.loop-at.cells.items c.trail_anew.new.cells.items
          c.loop-at.anew.items c.in_ok-trail.ensures.grown c.loop-at.invariant.threads)
          (record { pc = refl; trail = c.in_ok-trail.ensures.trail })));
      short = λ groups nested narrow.
          let old = c.loop-at.invariant.short groups nested narrow in
          let one = c.in_ok-trail.ensures.short groups nested
          (narrow-at groups nested c.args.old.now c.args.threads.now c.loop-at.at c.thread_at-thread.result c.thread_at-thread.ensures
          narrow) in
          let on = times-more c.loop-at.at (2 * groups + nested) in
          omega (arith, old, one, on);
    }

pub returns-in_err-trail : goal.returns-in_err-trail
returns-in_err-trail c = record {
  threads = IfOk-from_err c.from_residual.result _ c.from_residual.ensures.0;
  short = IfOk-from_err c.from_residual.result _ c.from_residual.ensures.0;
}

pub returns-in_err-push : goal.returns-in_err-push
returns-in_err-push c = record {
  threads = IfOk-from_err c.from_residual-in_err-push.result _ c.from_residual-in_err-push.ensures.0;
  short = IfOk-from_err c.from_residual-in_err-push.result _ c.from_residual-in_err-push.ensures.0;
}

pub returns : goal.returns
returns c =
    let last : c.loop-at.at ≡ length c.args.threads.now = omega arith in
    record {
      threads = subst (λ l. AreAnew c.args.old.now l c.loop-at.cells.items c.loop-at.anew.items)
          (take_all c.loop-at.at c.args.threads.now (le_of_eq (sym last))) c.loop-at.invariant.threads;
      short = λ groups nested narrow.
          subst (λ n. length c.loop-at.cells.items ≤ length c.args.cells.now.items + n * (2 * groups + nested)) last
          (c.loop-at.invariant.short groups nested narrow);
    }
