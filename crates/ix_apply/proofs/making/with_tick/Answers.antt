use mir.Val.{SFits}
use Rattle.std.proofs.Common.{◌≡◌, ap, ◌∙◌, w64}
use Rattle.std.proofs.lemmas.Int.{to_z-of_z}
use Rattle.std.specs.Prelude.{IsErrOf, Err}
use Rattle.ix_apply.specs.declared.effect.StepFault.{StepFault}
use Rattle.ix_apply.specs.declared.effect.StepFault.TheVariants as faults
use Rattle.ix_apply.specs.declared.prepared.PreparedCommand.{PreparedCommand}
use Rattle.ix_apply.proofs.Pairing.{tick_may_come, half_bounds}
use Rattle.ix_apply.proofs.making.with_tick.Goals as goal

-- the cause of a failure that is handed on
cause : (fault : StepFault) → IsErrOf {T = PreparedCommand} (Err fault) faults.Full → fault ≡ faults.Full
cause fault h = cc

pub returns-in-Err-clause-full : goal.returns-in-Err-clause-full
returns-in-Err-clause-full c =
    let f : SFits w64 c.args.moment = c.ranges.moment in
    λ was choose history given h bounds.
    (simp to_z-of_z at c.tick.ensures.full) (c.in-Err.is ∙ ap (λ (e : StepFault). Err e) (cause c.in-Err.fault was)) choose history given
    (tick_may_come choose history c.args.command given c.args.held.now c.args.begun.now c.args.moment h)
    h.follows.holds.bounds (half_bounds choose history c.args.command given c.args.held.now c.args.begun.now c.args.moment h bounds)

pub returns-in-Ok : goal.returns-in-Ok
returns-in-Ok c =
    let f : SFits w64 c.args.moment = c.ranges.moment in
    record {
      done = simp to_z-of_z at (c.behind_tick.ensures.done c.args.begun.now c.in-Ok.ensures.done);
      usable = c.behind_tick.ensures.usable c.in-Ok.ensures.proper;
      full = simp to_z-of_z at (c.behind_tick.ensures.full c.args.begun.now c.in-Ok.ensures.done);
    }
