use Rattle.std.proofs.Common.{List, refl, sym, ap, ◌∙◌, subst}
use Rattle.std.specs.Prelude.{Result, Ok, Err}
use Rattle.std.proofs.lemmas.Result.{err_from_is_err_and}
use Rattle.ix_base.specs.declared.files.File.{File}
use Rattle.ix_apply.specs.declared.effect.Effect.{Effect}
use Rattle.ix_apply.specs.declared.effect.StepFault.{StepFault}
use Rattle.ix_apply.specs.declared.effect.StepFault.TheVariants as faults
use Rattle.ix_apply.specs.Made.{GoesOn}
use Rattle.ix_apply.proofs.making.with_files.Goals as goal

abbrev done_by : Effect → List File → Effect
done_by step files = record { next = step.next; draft = step.draft; done_with = files; moved = step.moved }

pub returns-in_err-step : goal.returns-in_err-step
returns-in_err-step c =
    let p = err_from_is_err_and c.from_residual.result c.from_residual.ensures.1 in
    subst (λ (m : Result Effect StepFault). GoesOn m c.args.files.now c.from_residual.result) (sym c.in_err-step.was) (p.1
    ∙ ap (λ (f : StepFault). Err f) p.2)

pub returns-in-Err : goal.returns-in-Err
returns-in-Err c =
    subst (λ (m : Result Effect StepFault). GoesOn m c.args.files.now (Err faults.NoMemory)) (sym c.in_ok-step.was) refl

pub returns-in-Ok : goal.returns-in-Ok
returns-in-Ok c =
    let step = c.in_ok-step.step in
    subst (λ (m : Result Effect StepFault). GoesOn m c.args.files.now (Ok (done_by step c.add_files.new.list))) (sym c.in_ok-step.was)
    (ap (done_by step) c.in-Ok.ensures)
