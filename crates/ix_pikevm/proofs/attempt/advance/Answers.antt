use Rattle.std.proofs.Common.{sym, ap, subst}
use Rattle.std.proofs.lemmas.Result.{IfOk-from_err}
use Rattle.ix_pikevm.specs.Plans.{Knows}
use Rattle.ix_pikevm.specs.Attempts.{so_far, Lasts}
use Rattle.ix_pikevm.specs.declared.attempt.Attempt.{Attempt}
use Rattle.ix_pikevm.proofs.TestLemmas.{counts-more}
use Rattle.ix_pikevm.proofs.AttemptLemmas.{lasts-same}
use Rattle.ix_pikevm.proofs.attempt.advance.Goals as goal
use Rattle.ix_pikevm.proofs.attempt.advance.Goals.{in-More+in_ok-kept_up, in_default}

pub returns-clause-lasts : goal.returns-clause-lasts
returns-clause-lasts g c = λ start lasts.
    let stays = lasts-same (Knows c.args.plan) c.args.plan.code.now (so_far c.args.input.before c.args.input.bytes.now) start _ _ _ _ _ _ _
    _
    (sym c.looked_at.ensures.place) (sym c.in_ok-outcome.ensures.cells) (ap (λ v. v.items) (sym c.looked_at.ensures.threads))
    (sym c.looked_at.ensures.best) lasts in
    elim c.match-outcome.branch [
      | in-More+in_ok-kept_up w ↦ subst (λ (a : Attempt).
          Lasts (Knows c.args.plan) c.args.plan.code.now (so_far c.args.input.before c.args.input.bytes.now) start a.place a.cells.items
          a.threads.items a.best)
          (sym w.attempt-is) (w.in_ok-kept_up.ensures.lasts start stays)
      | in_default w ↦ subst (λ (a : Attempt). Lasts (Knows c.args.plan) c.args.plan.code.now
          (so_far c.args.input.before c.args.input.bytes.now) start a.place a.cells.items a.threads.items a.best)
          (sym w.attempt-is) stays
    ]

pub returns-in_err-outcome : goal.returns-in_err-outcome
returns-in_err-outcome g c = record {
  head = IfOk-from_err c.from_residual.result _ c.from_residual.ensures.0;
  lasts = IfOk-from_err c.from_residual.result _ c.from_residual.ensures.0;
  known = IfOk-from_err c.from_residual.result _ c.from_residual.ensures.0;
  within = IfOk-from_err c.from_residual.result _ c.from_residual.ensures.0;
  room = IfOk-from_err c.from_residual.result _ c.from_residual.ensures.0;
  counts = c.looked_at.ensures.counts;
}

pub returns-in_err-kept_up : goal.returns-in_err-kept_up
returns-in_err-kept_up g c = record {
  head = IfOk-from_err c.from_residual-in_err-kept_up.result _ c.from_residual-in_err-kept_up.ensures.0;
  lasts = IfOk-from_err c.from_residual-in_err-kept_up.result _ c.from_residual-in_err-kept_up.ensures.0;
  known = IfOk-from_err c.from_residual-in_err-kept_up.result _ c.from_residual-in_err-kept_up.ensures.0;
  within = IfOk-from_err c.from_residual-in_err-kept_up.result _ c.from_residual-in_err-kept_up.ensures.0;
  room = IfOk-from_err c.from_residual-in_err-kept_up.result _ c.from_residual-in_err-kept_up.ensures.0;
  counts = counts-more c.looked_at.ensures.counts c.kept_up.ensures.counts;
}

pub returns-clause-head : goal.returns-clause-head
returns-clause-head g c = c.in_ok-outcome.ensures.head
