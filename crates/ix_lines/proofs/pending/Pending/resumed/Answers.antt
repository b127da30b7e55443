use Rattle.std.proofs.Common.{rules, w64, ◌∙◌, ◌++◌, ap, sym}
use mir.Val.{SFits}
use Rattle.std.proofs.Math.Facts.{to_z-of_z}
use Rattle.ix_base.specs.Stream.{dated}
use Rattle.ix_lines.specs.Pending.{dated_in}
use Rattle.ix_lines.proofs.CarryLemmas.{dated-next}
use Rattle.ix_lines.proofs.pending.Pending.resumed.Goals as goal

pub loop-run-preserved : goal.loop-run-preserved
loop-run-preserved c =
    let run = c.run-item.result in
    let first = dated_in c.loop-run.pending in
    let fits : SFits w64 run.moment = search rules in
    record {
      before = c.add.ensures.before ∙ c.loop-run.invariant.before;
      paired = c.in_ok-add.ensures.paired;
      dated = c.in_ok-add.ensures.added
          ∙ ap (λ m. first ++ dated c.as_slice.result.now m) (to_z-of_z fits)
          ∙ ap (λ b. first ++ dated b run.moment) c.as_slice.ensures
          ∙ ap (λ l. l ++ dated run.bytes run.moment) c.loop-run.invariant.dated
          ∙ sym (dated-next c.args.runs.now c.loop-run.run-index run c.loop-run-test.true c.run-item.is);
    }
