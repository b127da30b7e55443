use Rattle.std.proofs.Common.{◌≡◌}
use Rattle.ix_apply.specs.declared.effect.StepFault.TheVariants as faults
use Rattle.std.specs.Prelude.{Err}
use Rattle.std.specs.declared.result.Result.{Result}
use Rattle.ix_apply.proofs.Causes.{move_full, same_fault}
use Rattle.ix_apply.proofs.Configuring.{configured_over, configured_steps}
use Rattle.ix_apply.proofs.context.CommandContext.parts.Goals as goal

pub returns-in-Ok-clause-done : goal.returns-in-Ok-clause-done
returns-in-Ok-clause-done c = record {
  steps = λ b said is same.
      configured_steps c.args.self.now c.base-base.result c.in_ok-change.field-0 c.in-Ok.moved b c.args.config.now
      c.base-base.ensures (c.in_ok-change.ensures.done.works c.args.config.now) c.in-Ok.ensures.done said is same;
}

pub returns-in-Err-clause-full : goal.returns-in-Err-clause-full
returns-in-Err-clause-full c =
    let from = c.from.ensures in
    rw from (λ full.
    configured_over c.args.self.now c.base-base.result c.in_ok-change.field-0 c.args.config.now c.base-base.ensures
    (c.in_ok-change.ensures.done.works c.args.config.now)
    (c.in-Err.ensures.full (move_full c.in-Err.fault full)))

pub returns-in_err-change-clause-full : goal.returns-in_err-change-clause-full
returns-in_err-change-clause-full c = λ full. (c.ended.ensures.full
    (same_fault c.ended.result c.from_residual.result c.in_err-change.field-0.0 faults.Full c.in_err-change.was c.from_residual.ensures.1
    full)).over c.args.config.now
