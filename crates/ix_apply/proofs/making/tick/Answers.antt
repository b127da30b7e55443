use Rattle.std.proofs.Common.{refl, rules, w64, ◌∙◌}
use Rattle.std.proofs.lemmas.Int.{to_z-of_z}
use Rattle.std.specs.Prelude.{IsErrOf}
use Rattle.ix_apply.specs.declared.effect.StepFault.TheVariants as faults
use Rattle.ix_apply.proofs.making.tick.Goals as goal

pub returns-in_err-step-clause-full : goal.returns-in_err-step-clause-full
returns-in_err-step-clause-full c = λ was choose history given h before behind.
    (let full : IsErrOf c.tick.result faults.Full = search rules in
    c.tick.ensures.full full choose history given (record {
      stands = h.stands;
      taken = tt;
      no_cause = refl;
      moment_is = to_z-of_z w64 c.args.moment c.ranges.moment ∙ h.moment_is;
    }) before behind)

pub returns-clause-done : goal.returns-clause-done
returns-clause-done c = λ choose history given h. record {
  step = c.in_ok-step.step;
  is_step = c.in_ok-step.ensures.done choose history given
      (record { stands = h.stands; taken = tt; no_cause = refl; moment_is = to_z-of_z w64 c.args.moment c.ranges.moment ∙ h.moment_is });
  storage = refl;
  draft = refl;
  files = refl;
}
