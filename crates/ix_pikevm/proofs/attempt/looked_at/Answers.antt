use Rattle.std.proofs.Common.{rules, ◌≡◌, length, sym, ◌∙◌, ap, subst}
use Rattle.std.specs.Prelude.{replicate, None, slice_get}
use Rattle.std.proofs.lemmas.Result.{IfOk-from_err}
use Rattle.ix_pikevm.specs.Leaf.{text_of}
use Rattle.ix_pikevm.specs.Acts.{AllKnown}
use Rattle.ix_pikevm.specs.Code.{best_ways}
use Rattle.ix_pikevm.specs.Plans.{Knows}
use Rattle.ix_pikevm.specs.Ran.{AreMarks}
use Rattle.ix_pikevm.specs.Attempts.{so_far}
use Rattle.ix_pikevm.proofs.TestLemmas.{counts-none}
use Rattle.ix_pikevm.proofs.AttemptLemmas.{continues-self, lasts-same}
use Rattle.ix_pikevm.proofs.RunLemmas.{take-grown}
use Rattle.ix_pikevm.proofs.attempt.looked_at.Goals as goal

pub returns-clause-head : goal.returns-clause-head
returns-clause-head g c = λ start lasts rows mean rank m kn.
    let text = text_of c.args.input in
    let count = c.args.count in
    let begun = lasts-same (Knows c.args.plan) c.args.plan.code.now (so_far c.args.input.before c.args.input.bytes.now) start _ _ _ _ _ _ _
    _ (sym c.take_up.ensures.place)
    (ap (λ v. v.items) (sym c.take_up.ensures.cells)) (sym c.in_ok-take_up.ensures.stack) (sym c.take_up.ensures.best) lasts in
    c.in_ok-best.ensures.head start 0 (begun text (continues-self text)) rows (replicate count None) mean rank m kn
    ∙ ap (λ l. slice_get (best_ways (replicate count None) l c.in_ok-best.best) 0) (sym c.deref.ensures.value)
    ∙ c.in_ok-outcome.ensures

pub returns-clause-cells : goal.returns-clause-cells
returns-clause-cells g c =
    let kept : c.len-kept.result ≡ length c.take_up.new.work.cells.items = search rules in
    ap (λ v. v.items) c.swap.ensures.y_after ∙ c.truncate.ensures.items ∙ take-grown _ _ c.len-kept.result c.in_ok-best.ensures.grown kept
    ∙ ap (λ v. v.items) c.take_up.ensures.cells

pub walk-requires-clause-room : goal.walk-requires-clause-room
walk-requires-clause-room g c =
    let work = c.take_up.new.work in
    let n = length c.args.plan.code.now in (
      subst (AreMarks work.marks.items n) (sym c.take_up.ensures.stamp)
          (subst (λ m. AreMarks m.items n c.args.room.now.main.stamp) (sym c.take_up.ensures.marks) c.requires.room.0),
      c.requires.room.1,
      c.requires.room.2,
    )

pub walk-requires-clause-known : goal.walk-requires-clause-known
walk-requires-clause-known g c =
    let work = c.take_up.new.work in
    let n = length c.args.plan.code.now in
    subst (λ cells. AllKnown n (length cells.items) work.stack.items) (sym c.take_up.ensures.cells)
    (subst (AllKnown n (length c.args.attempt.now.cells.items)) (sym c.in_ok-take_up.ensures.stack) c.requires.known)

pub returns-clause-room : goal.returns-clause-room
returns-clause-room g c = c.in_ok-best.ensures.room

pub returns-in_err-take_up : goal.returns-in_err-take_up
returns-in_err-take_up g c = record {
  head = IfOk-from_err c.from_residual.result _ c.from_residual.ensures.0;
  place = c.take_up.ensures.place;
  cells = IfOk-from_err c.from_residual.result _ c.from_residual.ensures.0;
  threads = c.take_up.ensures.threads;
  best = c.take_up.ensures.best;
  room = IfOk-from_err c.from_residual.result _ c.from_residual.ensures.0;
  counts = counts-none;
}

pub returns-in_err-best : goal.returns-in_err-best
returns-in_err-best g c = record {
  head = IfOk-from_err c.from_residual-in_err-best.result _ c.from_residual-in_err-best.ensures.0;
  place = c.take_up.ensures.place;
  cells = IfOk-from_err c.from_residual-in_err-best.result _ c.from_residual-in_err-best.ensures.0;
  threads = c.take_up.ensures.threads;
  best = c.take_up.ensures.best;
  room = IfOk-from_err c.from_residual-in_err-best.result _ c.from_residual-in_err-best.ensures.0;
  counts = c.walk.ensures.counts;
}

pub returns-in_err-outcome : goal.returns-in_err-outcome
returns-in_err-outcome g c = record {
  head = IfOk-from_err c.from_residual-in_err-outcome.result _ c.from_residual-in_err-outcome.ensures.0;
  place = c.take_up.ensures.place;
  cells = IfOk-from_err c.from_residual-in_err-outcome.result _ c.from_residual-in_err-outcome.ensures.0;
  threads = c.take_up.ensures.threads;
  best = c.take_up.ensures.best;
  room = IfOk-from_err c.from_residual-in_err-outcome.result _ c.from_residual-in_err-outcome.ensures.0;
  counts = c.walk.ensures.counts;
}
