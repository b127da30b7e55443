use Rattle.std.proofs.Common.{sym, subst, ℕ, List}
use Rattle.ix_model.specs.declared.commands.Command.TheVariants.{Block, End, Roll, Thaw}
use Rattle.std.specs.Result.{IsErrOf}
use Rattle.ix_model.specs.declared.commands.Command.{Command}
use Rattle.ix_apply.specs.Steps.{IsOver}
use Rattle.ix_apply.specs.declared.effect.StepFault.TheVariants as faults
use Rattle.ix_apply.proofs.context.CommandContext.work.Goals as goal

pub returns-in-Configure-clause-full : goal.returns-in-Configure-clause-full
returns-in-Configure-clause-full c =
    subst (λ (command : Command). IsErrOf c.configure.result faults.Full →
    IsOver command c.args.self.now) (sym c.in-Configure.is) c.configure.ensures.full

pub returns-in-Begin-clause-full : goal.returns-in-Begin-clause-full
returns-in-Begin-clause-full c =
    subst (λ (command : Command). IsErrOf c.begin.result faults.Full →
    IsOver command c.args.self.now) (sym c.in-Begin.is) c.begin.ensures.full

pub returns-in-Tick-clause-full : goal.returns-in-Tick-clause-full
returns-in-Tick-clause-full c =
    subst (λ (command : Command). IsErrOf c.tick.result faults.Full → IsOver command c.args.self.now) (sym c.in-Tick.is) c.tick.ensures.full

pub returns-in-Direct-clause-full : goal.returns-in-Direct-clause-full
returns-in-Direct-clause-full c =
    subst (λ (command : Command). IsErrOf c.direct.result faults.Full →
    IsOver command c.args.self.now) (sym c.in-Direct.is) c.direct.ensures.full

pub returns-in-Block-clause-full : goal.returns-in-Block-clause-full
returns-in-Block-clause-full c =
    subst (λ (command : Command). IsErrOf c.block.result faults.Full →
    IsOver command c.args.self.now) (sym c.in-Block.is)
    (subst (λ (n : List ℕ). IsErrOf c.block.result faults.Full →
    IsOver (Block n c.in-Block.bytes c.in-Block.spot) c.args.self.now) c.as_slice.ensures
    (subst (λ (b : List ℕ). IsErrOf c.block.result faults.Full →
    IsOver (Block c.as_slice.result.now b c.in-Block.spot) c.args.self.now) c.as_slice-in-Block.ensures c.block.ensures.full))

pub returns-in-End-clause-full : goal.returns-in-End-clause-full
returns-in-End-clause-full c =
    subst (λ (command : Command). IsErrOf c.end.result faults.Full →
    IsOver command c.args.self.now) (sym c.in-End.is)
    (subst (λ (n : List ℕ). IsErrOf c.end.result faults.Full →
    IsOver (End n) c.args.self.now) c.as_slice-in-End.ensures c.end.ensures.full)

pub returns-in-Roll-clause-full : goal.returns-in-Roll-clause-full
returns-in-Roll-clause-full c =
    subst (λ (command : Command). IsErrOf c.roll.result faults.Full →
    IsOver command c.args.self.now) (sym c.in-Roll.is)
    (subst (λ (n : List ℕ). IsErrOf c.roll.result faults.Full →
    IsOver (Roll n) c.args.self.now) c.as_slice-in-Roll.ensures c.roll.ensures.full)

pub returns-in-Thaw-clause-full : goal.returns-in-Thaw-clause-full
returns-in-Thaw-clause-full c =
    subst (λ (command : Command). IsErrOf c.thaw.result faults.Full →
    IsOver command c.args.self.now) (sym c.in-Thaw.is)
    (subst (λ (n : List ℕ). IsErrOf c.thaw.result faults.Full →
    IsOver (Thaw n c.in-Thaw.id) c.args.self.now) c.as_slice-in-Thaw.ensures c.thaw.ensures.full)
