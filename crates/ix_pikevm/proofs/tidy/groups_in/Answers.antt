use Rattle.std.proofs.Common.{◌-◌, Some, ◌∙◌, ap, arith}
use Rattle.ix_pikevm.proofs.TidyLemmas.{fit-at, fit-began, fit-ended, fit-none}
use Rattle.ix_pikevm.proofs.tidy.groups_in.Goals as goal

pub loop-at-init : goal.loop-at-init
loop-at-init c = record { within = omega arith; fit = fit-none 0 c.args.events.now; least = λ n f. omega arith }

pub loop-at-preserved-in-Began : goal.loop-at-preserved-in-Began
loop-at-preserved-in-Began c =
    record {
      within = omega (arith, c.loop-at.invariant.within);
      fit = fit-began c.loop-at.count (c.loop-at.at - 1) c.loop-at.at c.in-Began.place c.args.events.now (omega arith) (c.event_at.ensures
          ∙ ap Some c.in-Began.is) c.loop-at.invariant.fit;
      least = c.loop-at.invariant.least;
    }

pub loop-at-preserved : goal.loop-at-preserved
loop-at-preserved c =
    record {
      within = omega (arith, c.loop-at.invariant.within);
      fit = fit-ended c.loop-at.count c.max-count.result (c.loop-at.at - 1) c.loop-at.at c.in-Ended.number c.in-Ended.place
          c.args.events.now (omega arith) (c.event_at.ensures ∙ ap Some c.in-Ended.is)
          (omega (arith, c.max-count.ensures)) (omega (arith, c.max.ensures, c.max-count.ensures)) c.loop-at.invariant.fit;
      least = λ n f.
          let a = c.loop-at.invariant.least n f in
          let b = fit-at n c.args.events.now (c.loop-at.at - 1) c.in-Ended.number c.in-Ended.place (c.event_at.ensures
          ∙ ap Some c.in-Ended.is) f in
          omega (arith, a, b, c.max.ensures, c.max-count.ensures);
    }
