use Rattle.std.proofs.Common.{◌≡◌, [], sym, subst, refl}
use Rattle.ix_effects.specs.Moving.{deals}
use Rattle.ix_apply.specs.Dealing.{Deals, CannotDeal}
use Rattle.ix_apply.specs.Steps.{Steps, step_with}
use Rattle.ix_apply.proofs.Causes.{move_full, memory_no_full, no_failure}
use Rattle.ix_apply.proofs.Dealt.{dealt_over, dealt_steps}
use Rattle.ix_apply.proofs.context.CommandContext.dealt.Goals as goal

pub returns-in-Err-clause-full : goal.returns-in-Err-clause-full
returns-in-Err-clause-full c =
    let from = c.from.ensures in
    rw from (λ full. dealt_over c.args.self.now c.base-base.result c.args.worked c.base-base.ensures
    (c.in-Err.ensures.full (move_full c.in-Err.fault full)))

pub returns-in_ok-step-in-Ok-clause-done : goal.returns-in_ok-step-in-Ok-clause-done
returns-in_ok-step-in-Ok-clause-done c =
    subst (Deals c.args.self.now c.args.worked c.args.beside) (sym c.in_ok-step-in-Ok.ensures.is)
    (dealt_steps c.args.self.now c.base-base.result c.args.worked c.in-Ok.moved c.args.beside c.base-base.ensures c.in-Ok.ensures.done)

pub returns-in_err-step-in-Ok-clause-full : goal.returns-in_err-step-in-Ok-clause-full
returns-in_err-step-in-Ok-clause-full c = memory_no_full c.from_residual.result c.from_residual.ensures.1

pub returns-in_ok-step-in-Ok-clause-full : goal.returns-in_ok-step-in-Ok-clause-full
returns-in_ok-step-in-Ok-clause-full c = λ full. absurd (no_failure _ _ full)
