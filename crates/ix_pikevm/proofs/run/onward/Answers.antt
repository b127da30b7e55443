use Rattle.std.proofs.Common.{length, sym, ◌∙◌, subst, get_or}
use Rattle.std.proofs.lemmas.Option.{slice_get-get_or}
use Rattle.std.proofs.lemmas.Result.{IfOk-from_err}
use Rattle.ix_pikevm.specs.Acts.{AllKnown}
use Rattle.ix_pikevm.specs.Plans.{Knows}
use Rattle.ix_pikevm.specs.Stepped.{Steps}
use Rattle.ix_pikevm.specs.Tests.{answers_to}
use Rattle.ix_pikevm.proofs.TestLemmas.{are-answers, counts-more}
use Rattle.ix_pikevm.proofs.RunLemmas.{goes-on}
use Rattle.ix_pikevm.proofs.run.onward.Goals as goal

pub returns-in_err-after : goal.returns-in_err-after
returns-in_err-after g c = record {
  moves = IfOk-from_err c.from_residual.result _ c.from_residual.ensures.0;
  known = IfOk-from_err c.from_residual.result _ c.from_residual.ensures.0;
  room = IfOk-from_err c.from_residual.result _ c.from_residual.ensures.0;
  counts = c.round.ensures.counts;
  grown = IfOk-from_err c.from_residual.result _ c.from_residual.ensures.0;
}

pub returns-in_err-step : goal.returns-in_err-step
returns-in_err-step g c = record {
  moves = IfOk-from_err c.from_residual-in_err-step.result _ c.from_residual-in_err-step.ensures.0;
  known = IfOk-from_err c.from_residual-in_err-step.result _ c.from_residual-in_err-step.ensures.0;
  room = IfOk-from_err c.from_residual-in_err-step.result _ c.from_residual-in_err-step.ensures.0;
  counts = counts-more c.round.ensures.counts c.step.ensures.counts;
  grown = IfOk-from_err c.from_residual-in_err-step.result _ c.from_residual-in_err-step.ensures.0;
}

pub returns : goal.returns
returns g c = record {
  moves = λ real agrees sights same start place g. goes-on (Knows c.args.plan) c.args.plan.code.now real start place c.args.at _
      c.args.room.now.main.cells.items c.round.new.room.main.cells.items
      c.args.room.now.main.stack.items c.round.new.room.main.ready.items c.step.new.stack.items c.args.best c.in_ok-after.after
      (answers_to c.args.plan.tests.pattern.now.rows (get_or c.args.input.bytes.now c.args.at 0))
      (c.in_ok-after.ensures.rounds real agrees sights)
      (subst (λ r. Steps c.args.plan.code.now (answers_to c.args.plan.tests.pattern.now.rows (get_or c.args.input.bytes.now c.args.at 0)) r
      c.step.new.stack.items) c.deref.ensures.value c.in_ok-step.ensures.steps)
      (same ∙ slice_get-get_or c.args.input.bytes.now c.args.at 0 c.requires.within)
      (λ rows t. are-answers c.args.plan.tests.pattern.now.rows rows (get_or c.args.input.bytes.now c.args.at 0) t.same) g;
  known = c.in_ok-step.ensures.known (length c.round.new.room.main.cells.items)
      (subst (AllKnown (length c.args.plan.code.now) (length c.round.new.room.main.cells.items)) (sym c.deref.ensures.value)
      c.in_ok-after.ensures.known);
  room = c.in_ok-after.ensures.room;
  counts = counts-more c.round.ensures.counts c.step.ensures.counts;
  grown = c.in_ok-after.ensures.grown;
}
