use Rattle.std.proofs.Common.{◌≡◌, sym, subst}
use Rattle.ix_apply.proofs.Causes.{memory_no_full, no_failure}
use Rattle.std.specs.Prelude.{Err}
use Rattle.std.specs.declared.result.Result.{Result}
use Rattle.ix_model.specs.declared.commands.Command.TheVariants.{Configure}
use Rattle.ix_apply.specs.Steps.{Steps}
use Rattle.ix_apply.specs.declared.effect.StepFault.{StepFault}
use Rattle.ix_apply.specs.declared.effect.StepFault.TheVariants as faults
use Rattle.ix_apply.proofs.Configuring.{configured_written}
use Rattle.ix_apply.proofs.context.CommandContext.configure.Goals as goal

again : {T U : Type 0} (e : StepFault) → ◌≡◌ {A = Result T StepFault} (Err e) (Err faults.Full) →
    ◌≡◌ {A = Result U StepFault} (Err e) (Err faults.Full)
again e h = cc

pub returns-in_ok-step-in-Ok-with_config-clause-done : goal.returns-in_ok-step-in-Ok-with_config-clause-done
returns-in_ok-step-in-Ok-with_config-clause-done c =
    subst (Steps (Configure c.args.config) c.args.self.now) (sym c.in_ok-step-in-Ok-with_config.ensures.is)
    (c.in-Ok.ensures.done.steps c.in-Ok-with_config.beside c.in-Ok-with_config.ensures.items c.in-Ok-with_config.ensures.config
    c.in-Ok-with_config.ensures.spot)

pub returns-in-Err-clause-full : goal.returns-in-Err-clause-full
returns-in-Err-clause-full c = λ full. c.in-Err.ensures.full (again c.in-Err.fault full)

pub returns-in-Err-with_config-clause-full : goal.returns-in-Err-with_config-clause-full
returns-in-Err-with_config-clause-full c = λ full choose history given h before behind.
    (let written = configured_written choose history c.args.config given c.args.self.now h behind in
    c.in-Err-with_config.ensures.full (again c.in-Err-with_config.fault full) written.0 written.1)

pub returns-in_err-step-in-Ok-with_config-clause-full : goal.returns-in_err-step-in-Ok-with_config-clause-full
returns-in_err-step-in-Ok-with_config-clause-full c = memory_no_full c.from_residual.result c.from_residual.ensures.1

pub returns-in_ok-step-in-Ok-with_config-clause-full : goal.returns-in_ok-step-in-Ok-with_config-clause-full
returns-in_ok-step-in-Ok-with_config-clause-full c = λ full. absurd (no_failure _ _ full)
