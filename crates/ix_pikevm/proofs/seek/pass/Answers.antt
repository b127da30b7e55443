use Rattle.std.proofs.Common.{◌≡◌, length, sym, ◌∙◌, subst, map}
use Rattle.std.proofs.lemmas.Result.{IfOk-from_err}
use Rattle.ix_pikevm.specs.Acts.{AllKnown}
use Rattle.ix_pikevm.specs.Settled.{AllBytes}
use Rattle.ix_pikevm.specs.Stepped.{Steps}
use Rattle.ix_pikevm.specs.Plans.{Knows}
use Rattle.ix_pikevm.specs.Seeks.{forgotten}
use Rattle.ix_pikevm.specs.Tests.{answers_to}
use Rattle.ix_pikevm.proofs.TestLemmas.{are-answers}
use Rattle.ix_pikevm.proofs.SeekLemmas.{bytes-forgot, known-forgot, carry-passed}
use Rattle.ix_pikevm.proofs.seek.pass.Goals as goal

pub step-requires-clause-bytes : goal.step-requires-clause-bytes
step-requires-clause-bytes g c =
    let ready : c.deref.result.now ≡ map forgotten c.args.room.now.main.ready.items = c.deref.ensures.value ∙ c.forget.ensures in
    subst (AllBytes c.args.plan.code.now) (sym ready) (bytes-forgot c.args.plan.code.now c.args.room.now.main.ready.items c.requires.bytes)

pub returns-clause-passed : goal.returns-clause-passed
returns-clause-passed g c = λ text p got start from to carry.
    let ready : c.deref.result.now ≡ map forgotten c.args.room.now.main.ready.items = c.deref.ensures.value ∙ c.forget.ensures in
    carry-passed (Knows c.args.plan) c.args.plan.code.now text start from to p c.args.byte c.args.room.now.main.ready.items
    c.step.new.stack.items (answers_to c.args.plan.tests.pattern.now.rows c.args.byte)
    (subst (λ r. Steps c.args.plan.code.now (answers_to c.args.plan.tests.pattern.now.rows c.args.byte) r c.step.new.stack.items) ready
    c.in_ok-step.ensures.steps)
    got (λ rows t. are-answers c.args.plan.tests.pattern.now.rows rows c.args.byte t.same) carry

pub returns-clause-known : goal.returns-clause-known
returns-clause-known g c =
    let ready : c.deref.result.now ≡ map forgotten c.args.room.now.main.ready.items = c.deref.ensures.value ∙ c.forget.ensures in
    c.in_ok-step.ensures.known (length c.clear.new.self.items)
    (subst (AllKnown (length c.args.plan.code.now) (length c.clear.new.self.items)) (sym ready)
    (known-forgot (length c.args.plan.code.now) (length c.args.room.now.main.cells.items) (length c.clear.new.self.items)
    c.args.room.now.main.ready.items c.requires.known))

pub returns-in_err-step : goal.returns-in_err-step
returns-in_err-step g c = record {
  passed = IfOk-from_err c.from_residual.result _ c.from_residual.ensures.0;
  known = IfOk-from_err c.from_residual.result _ c.from_residual.ensures.0;
  room = IfOk-from_err c.from_residual.result _ c.from_residual.ensures.0;
  counts = c.step.ensures.counts;
}
