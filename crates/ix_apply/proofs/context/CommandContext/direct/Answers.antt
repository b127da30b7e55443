use mir.Val.{SFits}
use Rattle.std.proofs.lemmas.Int.{to_z-of_z}
use Rattle.std.proofs.Common.{rules, w64, ◌≡◌, [], sym, subst, refl}
use Rattle.std.proofs.lemmas.Result.{IfOk-weaker, err_from_is_err_and}
use Rattle.ix_model.specs.declared.commands.Command.TheVariants.{Direct}
use Rattle.ix_apply.specs.Steps.{IsBeside, no_beside}
use Rattle.ix_apply.specs.declared.effect.Beside.{Beside}
use Rattle.ix_apply.proofs.Causes.{work_full}
use Rattle.ix_apply.proofs.Stepping.{may_be_done, stays_within, beside_none}
use Rattle.ix_apply.proofs.context.CommandContext.direct.Goals as goal

pub returns-in_err-worked-clause-full : goal.returns-in_err-worked-clause-full
returns-in_err-worked-clause-full c =
    let f : SFits w64 c.args.self.now.moment = search rules in
    let p = err_from_is_err_and c.from_residual.result c.from_residual.ensures.1 in
    rw (p.1, p.2) (λ full choose history given h before behind.
    (simp to_z-of_z at c.in_err-worked.ensures.full) (work_full c.in_err-worked.field-0.0 full) choose history
    (may_be_done choose history (Direct c.args.events) given c.args.self.now h)
    (stays_within choose history (Direct c.args.events) given c.args.self.now h before behind))

pub returns-clause-done : goal.returns-clause-done
returns-clause-done c =
    let f : SFits w64 c.args.self.now.moment = search rules in
    IfOk-weaker c.dealt.result _ _
    (λ step done. done.steps (Direct c.args.events) tt
    (subst (IsBeside (Direct c.args.events) c.args.self.now.held.now) (sym c.none.ensures)
    (beside_none (Direct c.args.events) c.args.self.now.held.now refl refl refl refl))
    (λ choose history given h. (simp to_z-of_z at c.in_ok-worked.ensures.done) choose history
    (may_be_done choose history (Direct c.args.events) given c.args.self.now h)))
    c.dealt.ensures.done

pub returns-clause-full : goal.returns-clause-full
returns-clause-full c =
    let f : SFits w64 c.args.self.now.moment = search rules in
    λ full. (c.dealt.ensures.full full).over (Direct c.args.events) tt
    (λ choose history given h. (simp to_z-of_z at c.in_ok-worked.ensures.done) choose history
    (may_be_done choose history (Direct c.args.events) given c.args.self.now h))
