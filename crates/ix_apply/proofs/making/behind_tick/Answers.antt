use Rattle.std.proofs.Common.{◌≡◌, List, refl, sym, ap, ◌∙◌, subst, w64}
use Rattle.std.proofs.lemmas.Int.{to_z-of_z}
use Rattle.std.specs.Prelude.{IsErrOf, IfOk, Some, Result, Ok, Err}
use Rattle.ix_base.specs.declared.files.File.{File}
use Rattle.ix_commit.specs.declared.write_batch.WriteBatch.{WriteBatch}
use Rattle.ix_apply.specs.Made.{GoesOn, done_with_more, paired}
use Rattle.ix_apply.specs.declared.effect.Effect.{Effect}
use Rattle.ix_apply.specs.declared.effect.StepFault.{StepFault}
use Rattle.ix_apply.specs.declared.effect.StepFault.TheVariants as faults
use Rattle.ix_apply.specs.declared.prepared.PreparedCommand.{PreparedCommand}
use Rattle.ix_apply.proofs.Pairing.{tick_may_come, then_may_come, ticked_pair, half_bounds, whole_bounds}
use Rattle.ix_apply.proofs.making.behind_tick.Goals as goal

-- what holds of a step that was made holds of the pair with it
pair_of : (draft : WriteBatch) (made more : Result Effect StepFault) (files : List File) (result : Result PreparedCommand StepFault)
    (P : Effect → Type 0) (Q : PreparedCommand → Type 0) → GoesOn made files more → result ≡ paired draft more →
    IfOk made P → ((step : Effect) → P step → Q (record { first = Some draft; step = done_with_more step files })) → IfOk result Q
pair_of draft (Err fault) more files result P Q goes is holds so =
    subst (λ (r : Result PreparedCommand StepFault). IfOk r Q) (sym (is ∙ ap (paired draft) goes)) tt
pair_of draft (Ok step) (Err fault) files result P Q goes is holds so =
    subst (λ (r : Result PreparedCommand StepFault). IfOk r Q) (sym is) tt
pair_of draft (Ok step) (Ok more) files result P Q goes is holds so =
    subst (λ (r : Result PreparedCommand StepFault). IfOk r Q) (sym is)
    (subst (λ (m : Effect). Q (record { first = Some draft; step = m })) (sym goes) (so step holds))

-- no pair was made for the same cause as no step
none_of : (draft : WriteBatch) (made more : Result Effect StepFault) (files : List File) (result : Result PreparedCommand StepFault) →
    GoesOn made files more → result ≡ paired draft more →
    IsErrOf result faults.Full → IsErrOf made faults.Full
none_of draft (Err fault) more files result goes is full = same (sym (is ∙ ap (paired draft) goes) ∙ full)
  where
    same : IsErrOf {T = PreparedCommand} (Err fault) faults.Full → IsErrOf {T = Effect} (Err fault) faults.Full
    same e = cc
none_of draft (Ok step) (Ok more) files result goes is full = cc
none_of draft (Ok step) (Err fault) files result goes is full = cc

pub returns : goal.returns
returns c =
    let goes : GoesOn c.work.result c.args.first.done_with c.with_files-made.result =
    subst (λ (files : List File). GoesOn c.work.result files c.with_files-made.result) c.as_slice.ensures c.with_files-made.ensures in
    record {
      done = λ begun ticks.
          pair_of c.args.first.draft c.work.result c.with_files-made.result c.args.first.done_with c.paired.result _ _ goes c.paired.ensures
          c.work.ensures.done
          (λ step steps choose history given h.
          let t = ticks choose history given (tick_may_come choose history c.args.command given c.args.held.now begun c.args.moment h) in
          ticked_pair choose history c.args.command given c.args.held.now begun c.args.moment h c.args.first step t
          (steps choose _ given (then_may_come choose history c.args.command given c.args.held.now begun c.args.moment h t.step t.is_step _
          refl t.storage (to_z-of_z w64 c.args.moment c.ranges.moment))));
      usable = λ proper.
          pair_of c.args.first.draft c.work.result c.with_files-made.result c.args.first.done_with c.paired.result _ _ goes c.paired.ensures
          c.work.ensures.usable
          (λ step usable. record { proper = (proper, usable.proper); room = usable.room });
      full = λ begun ticks was choose history given h bounds.
          let t = ticks choose history given (tick_may_come choose history c.args.command given c.args.held.now begun c.args.moment h) in
          c.work.ensures.full (none_of c.args.first.draft c.work.result c.with_files-made.result c.args.first.done_with c.paired.result goes
          c.paired.ensures was) choose _ given
          (then_may_come choose history c.args.command given c.args.held.now begun c.args.moment h t.step t.is_step _ refl t.storage
          (to_z-of_z w64 c.args.moment c.ranges.moment))
          (half_bounds choose history c.args.command given c.args.held.now begun c.args.moment h bounds)
          (whole_bounds choose history c.args.command given c.args.held.now begun c.args.moment h bounds);
    }
