use Rattle.std.proofs.Common.{length, refl, sym, ap, subst}
use Rattle.std.proofs.lemmas.Result.{IfOk-from_err}
use Rattle.ix_pikevm.specs.Acts.{AllKnown}
use Rattle.ix_pikevm.specs.Plans.{Knows}
use Rattle.ix_pikevm.specs.Ran.{AreMarks}
use Rattle.ix_pikevm.specs.Attempts.{so_far}
use Rattle.ix_pikevm.proofs.TestLemmas.{counts-none}
use Rattle.ix_pikevm.proofs.AttemptLemmas.{lasts-same}
use Rattle.ix_pikevm.proofs.attempt.kept_up.Goals as goal

pub returns-clause-lasts : goal.returns-clause-lasts
returns-clause-lasts g c = λ start lasts.
    let moved = c.in_ok-keep_up.ensures.lasts start
    (lasts-same (Knows c.args.plan) c.args.plan.code.now (so_far c.args.input.before c.args.input.bytes.now) start _ _ _ _ _ _ _ _
    (sym c.take_up.ensures.place)
    (ap (λ v. v.items) (sym c.take_up.ensures.cells)) (sym c.in_ok-take_up.ensures.stack) (sym c.take_up.ensures.best) lasts) in
    lasts-same (Knows c.args.plan) c.args.plan.code.now (so_far c.args.input.before c.args.input.bytes.now) start _ _ _ _ _ _ _ _ refl
    (sym (ap (λ v. v.items) c.swap.ensures.y_after)) c.in_ok-keep_up.ensures.threads refl moved

pub keep_up-requires-clause-room : goal.keep_up-requires-clause-room
keep_up-requires-clause-room g c =
    let work = c.take_up.new.work in
    let n = length c.args.plan.code.now in (
      subst (AreMarks work.marks.items n) (sym c.take_up.ensures.stamp)
          (subst (λ m. AreMarks m.items n c.args.room.now.main.stamp) (sym c.take_up.ensures.marks) c.requires.room.0),
      c.requires.room.1,
      c.requires.room.2,
    )

pub keep_up-requires-clause-known : goal.keep_up-requires-clause-known
keep_up-requires-clause-known g c =
    let work = c.take_up.new.work in
    let n = length c.args.plan.code.now in
    subst (λ cells. AllKnown n (length cells.items) work.stack.items) (sym c.take_up.ensures.cells)
    (subst (AllKnown n (length c.args.attempt.now.cells.items)) (sym c.in_ok-take_up.ensures.stack) c.requires.known)

pub returns-in_err-take_up : goal.returns-in_err-take_up
returns-in_err-take_up g c = record {
  lasts = IfOk-from_err c.from_residual.result _ c.from_residual.ensures.0;
  known = IfOk-from_err c.from_residual.result _ c.from_residual.ensures.0;
  within = IfOk-from_err c.from_residual.result _ c.from_residual.ensures.0;
  room = IfOk-from_err c.from_residual.result _ c.from_residual.ensures.0;
  counts = counts-none;
}

pub returns-in_err-keep_up : goal.returns-in_err-keep_up
returns-in_err-keep_up g c = record {
  lasts = IfOk-from_err c.from_residual-in_err-keep_up.result _ c.from_residual-in_err-keep_up.ensures.0;
  known = IfOk-from_err c.from_residual-in_err-keep_up.result _ c.from_residual-in_err-keep_up.ensures.0;
  within = IfOk-from_err c.from_residual-in_err-keep_up.result _ c.from_residual-in_err-keep_up.ensures.0;
  room = IfOk-from_err c.from_residual-in_err-keep_up.result _ c.from_residual-in_err-keep_up.ensures.0;
  counts = c.keep_up.ensures.counts;
}
