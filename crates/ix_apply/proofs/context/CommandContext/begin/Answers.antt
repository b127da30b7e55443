use Rattle.std.proofs.Common.{◌≡◌, [], sym, subst, refl}
use Rattle.std.proofs.lemmas.Result.{IfOk-weaker, err_from_is_err_and}
use Rattle.ix_model.specs.declared.commands.Command.TheVariants.{Begin}
use Rattle.ix_apply.specs.Steps.{IsBeside, no_beside}
use Rattle.ix_apply.specs.declared.effect.Beside.{Beside}
use Rattle.ix_apply.proofs.Causes.{work_full}
use Rattle.ix_apply.proofs.Stepping.{may_be_done, stays_within, beside_none}
use Rattle.ix_apply.proofs.context.CommandContext.begin.Goals as goal

pub returns-in_err-worked-clause-full : goal.returns-in_err-worked-clause-full
returns-in_err-worked-clause-full c =
    let p = err_from_is_err_and c.from_residual.result c.from_residual.ensures.1 in
    rw (p.1, p.2) (λ full choose history given h before behind.
    c.in_err-worked.ensures.full (work_full c.in_err-worked.field-0.0 full) choose history c.args.self.now.moment
    (may_be_done choose history (Begin c.args.channel c.args.meta) given c.args.self.now h)
    (stays_within choose history (Begin c.args.channel c.args.meta) given c.args.self.now h before behind))

pub returns-clause-done : goal.returns-clause-done
returns-clause-done c = IfOk-weaker c.dealt.result _ _
    (λ step done. done.steps (Begin c.args.channel c.args.meta) tt
    (subst (IsBeside (Begin c.args.channel c.args.meta) c.args.self.now.held.now) (sym c.none.ensures)
    (beside_none (Begin c.args.channel c.args.meta) c.args.self.now.held.now refl refl refl refl))
    (λ choose history given h. c.in_ok-worked.ensures.done choose history c.args.self.now.moment
    (may_be_done choose history (Begin c.args.channel c.args.meta) given c.args.self.now h)))
    c.dealt.ensures.done

pub returns-clause-full : goal.returns-clause-full
returns-clause-full c = λ full. (c.dealt.ensures.full full).over (Begin c.args.channel c.args.meta) tt
    (λ choose history given h. c.in_ok-worked.ensures.done choose history c.args.self.now.moment
    (may_be_done choose history (Begin c.args.channel c.args.meta) given c.args.self.now h))
