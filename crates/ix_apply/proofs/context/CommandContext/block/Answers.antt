use Rattle.std.proofs.Common.{◌≡◌, List, [], sym, ap, ◌∙◌, append-nil}
use Rattle.std.specs.Prelude.{Option, Err}
use Rattle.std.specs.declared.result.Result.{Result}
use Rattle.std.proofs.lemmas.Result.{IfOk-weaker, err_from_is_err_and}
use Rattle.ix_model.specs.declared.commands.Command.TheVariants.{Block}
use Rattle.ix_model.specs.declared.commands.Config.{Config}
use Rattle.ix_model.specs.Said.{spot_item}
use Rattle.ix_apply.specs.Settings.{config_after}
use Rattle.ix_apply.specs.Steps.{IsBeside}
use Rattle.ix_apply.specs.declared.effect.StepFault.{StepFault}
use Rattle.ix_apply.specs.declared.effect.StepFault.TheVariants as faults
use Rattle.ix_apply.proofs.context.CommandContext.block.Goals as goal

again : {T U : Type 0} (e : StepFault) → ◌≡◌ {A = Result T StepFault} (Err e) (Err faults.Full) →
    ◌≡◌ {A = Result U StepFault} (Err e) (Err faults.Full)
again e h = cc

pub returns-in-Ok-clause-done : goal.returns-in-Ok-clause-done
returns-in-Ok-clause-done c =
    IfOk-weaker c.dealt.result _ _
    (λ step done. done.steps (Block c.args.channel.now c.args.bytes.now c.args.spot) tt
    (record {
      items_are = c.in-Ok.ensures.items ∙ sym (append-nil (spot_item c.args.spot));
      config_is = ap (λ (o : Option Config). config_after c.args.self.now.held.now.config o) c.in-Ok.ensures.config;
      spots_are = c.in-Ok.ensures.spot;
    })
    (c.in_ok-worked.ensures.done.works c.args.spot))
    c.dealt.ensures.done

pub returns-in-Ok-clause-full : goal.returns-in-Ok-clause-full
returns-in-Ok-clause-full c =
    λ full. (c.dealt.ensures.full full).over (Block c.args.channel.now c.args.bytes.now c.args.spot) tt
    (c.in_ok-worked.ensures.done.works c.args.spot)

pub returns-in_err-worked-clause-full : goal.returns-in_err-worked-clause-full
returns-in_err-worked-clause-full c =
    let p = err_from_is_err_and c.from_residual.result c.from_residual.ensures.1 in
    rw (p.1, p.2) (λ full. (c.in_err-worked.ensures.full (again c.in_err-worked.field-0.0 full)).over c.args.spot)
