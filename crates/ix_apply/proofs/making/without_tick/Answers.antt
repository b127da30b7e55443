use Rattle.std.proofs.Common.{refl, rules, w64}
use Rattle.std.proofs.lemmas.Int.{to_z-of_z}
use Rattle.std.specs.Prelude.{IsErrOf}
use Rattle.ix_apply.specs.declared.effect.StepFault.TheVariants as faults
use Rattle.ix_apply.proofs.Pairing.{may_come, plain_pair, end_bounds}
use Rattle.ix_apply.proofs.making.without_tick.Goals as goal

pub returns-in_err-step-clause-full : goal.returns-in_err-step-clause-full
returns-in_err-step-clause-full c = λ was choose history given h bounds.
    (let full : IsErrOf c.work.result faults.Full = search rules in
    c.work.ensures.full full choose history given
    (may_come choose history c.args.command given c.args.held.now c.args.begun.now c.args.moment h _ refl refl
    (to_z-of_z w64 c.args.moment c.ranges.moment))
    h.follows.holds.bounds (end_bounds choose history c.args.command given c.args.held.now c.args.begun.now c.args.moment h bounds))

pub returns-clause-done : goal.returns-clause-done
returns-clause-done c = λ choose history given h.
    plain_pair choose history c.args.command given c.args.held.now c.args.begun.now c.args.moment h c.in_ok-step.step
    (c.in_ok-step.ensures.done choose history given (may_come choose history c.args.command given c.args.held.now c.args.begun.now
    c.args.moment h _ refl refl (to_z-of_z w64 c.args.moment c.ranges.moment)))
