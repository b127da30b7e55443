use Rattle.std.proofs.Common.{length, sym, subst, arith, get_or}
use Rattle.std.proofs.lemmas.Option.{slice_get-get_or}
use Rattle.std.proofs.lemmas.Result.{IfOk-from_err}
use Rattle.ix_pikevm.specs.Leaf.{text_of}
use Rattle.ix_pikevm.specs.Acts.{AllKnown}
use Rattle.ix_pikevm.specs.Ran.{IsOf}
use Rattle.ix_pikevm.specs.Tests.{answers_to}
use Rattle.ix_pikevm.specs.Stepped.{Steps}
use Rattle.ix_pikevm.proofs.AgreeLemmas.{agrees-refl}
use Rattle.ix_pikevm.proofs.TestLemmas.{are-answers, counts-none}
use Rattle.ix_pikevm.proofs.RunLemmas.{goes-on}
use Rattle.ix_pikevm.proofs.plain.onward.Goals as goal

pub returns-in_err-after : goal.returns-in_err-after
returns-in_err-after g c = record {
  moves = IfOk-from_err c.from_residual.result _ c.from_residual.ensures.0;
  known = IfOk-from_err c.from_residual.result _ c.from_residual.ensures.0;
  marks = IfOk-from_err c.from_residual.result _ c.from_residual.ensures.0;
  grown = IfOk-from_err c.from_residual.result _ c.from_residual.ensures.0;
  counts = counts-none;
}

pub returns-in_err-step : goal.returns-in_err-step
returns-in_err-step g c = record {
  moves = IfOk-from_err c.from_residual-in_err-step.result _ c.from_residual-in_err-step.ensures.0;
  known = IfOk-from_err c.from_residual-in_err-step.result _ c.from_residual-in_err-step.ensures.0;
  marks = IfOk-from_err c.from_residual-in_err-step.result _ c.from_residual-in_err-step.ensures.0;
  grown = IfOk-from_err c.from_residual-in_err-step.result _ c.from_residual-in_err-step.ensures.0;
  counts = c.step.ensures.counts;
}

pub returns : goal.returns
returns g c = record {
  moves = λ start place g. goes-on (IsOf c.args.tests.pattern.now.rows) c.args.code.now (text_of c.args.input) start place c.args.at _
      c.args.work.now.cells.items c.round.new.work.cells.items
      c.args.work.now.stack.items c.round.new.work.ready.items c.step.new.stack.items c.args.best c.in_ok-after.after
      (answers_to c.args.tests.pattern.now.rows (get_or c.args.input.bytes.now c.args.at 0))
      (c.in_ok-after.ensures.rounds (text_of c.args.input) (agrees-refl (text_of c.args.input) c.args.at (omega (arith, c.requires.within)))
      c.args.tests.pattern.now.rows)
      (subst (λ r. Steps c.args.code.now (answers_to c.args.tests.pattern.now.rows (get_or c.args.input.bytes.now c.args.at 0)) r
      c.step.new.stack.items) c.deref.ensures.value c.in_ok-step.ensures.steps)
      (slice_get-get_or c.args.input.bytes.now c.args.at 0 c.requires.within)
      (λ rows t. are-answers c.args.tests.pattern.now.rows rows (get_or c.args.input.bytes.now c.args.at 0) t) g;
  known = c.in_ok-step.ensures.known (length c.round.new.work.cells.items)
      (subst (AllKnown (length c.args.code.now) (length c.round.new.work.cells.items)) (sym c.deref.ensures.value)
      c.in_ok-after.ensures.known);
  marks = c.in_ok-after.ensures.marks;
  grown = c.in_ok-after.ensures.grown;
  counts = c.step.ensures.counts;
}
