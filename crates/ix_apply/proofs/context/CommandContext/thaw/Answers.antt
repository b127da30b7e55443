use Rattle.std.proofs.Common.{◌≡◌, [], sym, subst, refl}
use Rattle.std.proofs.lemmas.Result.{err_from_is_err_and}
use Rattle.ix_channels.specs.declared.change.ChannelChange.TheVariants.{Same}
use Rattle.ix_model.specs.declared.commands.Command.TheVariants.{Thaw}
use Rattle.ix_effects.specs.Moving.{turns, rolls, thaws}
use Rattle.ix_apply.specs.Steps.{Steps, step_with, no_beside}
use Rattle.ix_apply.proofs.Causes.{move_full, none_full, memory_no_full}
use Rattle.ix_apply.proofs.Moving.{moved_at, over_at}
use Rattle.ix_apply.proofs.Stepping.{still_steps}
use Rattle.ix_apply.proofs.context.CommandContext.thaw.Goals as goal

pub returns-in_err-moved-clause-full : goal.returns-in_err-moved-clause-full
returns-in_err-moved-clause-full c =
    let p = err_from_is_err_and c.from_residual.result c.from_residual.ensures.1 in
    rw (p.1, p.2) (λ full.
    over_at (thaws c.args.index.now c.args.id) (Thaw c.args.index.now c.args.id) c.args.self.now c.base-base.result c.base-base.ensures
    (λ choose history given h. refl)
    (c.in_err-moved.ensures.full (move_full c.in_err-moved.field-0.0 full)))

pub returns-clause-done : goal.returns-clause-done
returns-clause-done c =
    subst (Steps (Thaw c.args.index.now c.args.id) c.args.self.now) (sym c.in_ok-step.ensures.is)
    (λ choose history given h. still_steps choose history (Thaw c.args.index.now c.args.id) given c.args.self.now c.in_ok-moved.moved tt h
    (moved_at (thaws c.args.index.now c.args.id) (Thaw c.args.index.now c.args.id) c.args.self.now c.base-base.result c.in_ok-moved.moved
    c.base-base.ensures (λ choose history given h. refl) c.in_ok-moved.ensures.done choose history given h))

pub returns-in_err-step-clause-full : goal.returns-in_err-step-clause-full
returns-in_err-step-clause-full c = memory_no_full c.from_residual-in_err-step.result c.from_residual-in_err-step.ensures.1
