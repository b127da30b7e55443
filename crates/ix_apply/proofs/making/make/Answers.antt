use mir.Val.{SFits}
use Rattle.std.proofs.Common.{◌≡◌, ℤ, sym, ap, ◌∙◌, rules, w64, to_z, of_z}
use Rattle.std.proofs.lemmas.Int.{to_z-of_z}
use Rattle.std.proofs.lemmas.Result.{IfOk-weaker}
use Rattle.ix_model.specs.Step.{effective}
use Rattle.ix_apply.proofs.making.make.Goals as goal

-- the moment of a command, as it is handed on
moment_at : (last moment given : ℤ) → SFits w64 moment → SFits w64 given → moment ≡ effective last (to_z w64 (of_z w64 given)) →
    to_z w64 (of_z w64 moment) ≡ effective last given
moment_at last moment given f g e = to_z-of_z w64 moment f ∙ (e ∙ ap (λ (z : ℤ). effective last z) (to_z-of_z w64 given g))

pub returns-then-is_due-clause-done : goal.returns-then-is_due-clause-done
returns-then-is_due-clause-done c =
    let now : SFits w64 c.effective-moment.result = search rules in
    let given : SFits w64 c.args.order.moment = search rules in
    IfOk-weaker c.with_tick.result _ _
    (λ pair p choose history f. p choose history c.args.order.moment (record {
      follows = f;
      is_begun = record {
        shelves = c.in_ok-begun.ensures.shelves;
        ledger = c.in_ok-begun.ensures.ledger;
        last = c.in_ok-begun.ensures.last;
        tick = c.in_ok-begun.ensures.tick;
      };
      moment_is = moment_at _ c.effective-moment.result c.args.order.moment now given
          (c.effective-moment.ensures.seen choose history f.holds.storage);
      due_is = sym (c.needs_tick-is_due.ensures choose history f.holds.channels f.holds.storage) ∙ c.if-is_due.true;
    }))
    c.with_tick.ensures.done

pub returns-then-is_due-clause-full : goal.returns-then-is_due-clause-full
returns-then-is_due-clause-full c =
    let now : SFits w64 c.effective-moment.result = search rules in
    let given : SFits w64 c.args.order.moment = search rules in
    λ full choose history f bounds. c.with_tick.ensures.full full choose history c.args.order.moment (record {
      follows = f;
      is_begun = record {
        shelves = c.in_ok-begun.ensures.shelves;
        ledger = c.in_ok-begun.ensures.ledger;
        last = c.in_ok-begun.ensures.last;
        tick = c.in_ok-begun.ensures.tick;
      };
      moment_is = moment_at _ c.effective-moment.result c.args.order.moment now given
          (c.effective-moment.ensures.seen choose history f.holds.storage);
      due_is = sym (c.needs_tick-is_due.ensures choose history f.holds.channels f.holds.storage) ∙ c.if-is_due.true;
    }) bounds

pub returns-clause-done : goal.returns-clause-done
returns-clause-done c =
    let now : SFits w64 c.effective-moment.result = search rules in
    let given : SFits w64 c.args.order.moment = search rules in
    IfOk-weaker c.without_tick.result _ _
    (λ pair p choose history f. p choose history c.args.order.moment (record {
      follows = f;
      is_begun = record {
        shelves = c.in_ok-begun.ensures.shelves;
        ledger = c.in_ok-begun.ensures.ledger;
        last = c.in_ok-begun.ensures.last;
        tick = c.in_ok-begun.ensures.tick;
      };
      moment_is = moment_at _ c.effective-moment.result c.args.order.moment now given
          (c.effective-moment.ensures.seen choose history f.holds.storage);
      due_is = sym (c.needs_tick-is_due.ensures choose history f.holds.channels f.holds.storage) ∙ c.if-is_due.false;
    }))
    c.without_tick.ensures.done

pub returns-clause-full : goal.returns-clause-full
returns-clause-full c =
    let now : SFits w64 c.effective-moment.result = search rules in
    let given : SFits w64 c.args.order.moment = search rules in
    λ full choose history f bounds. c.without_tick.ensures.full full choose history c.args.order.moment (record {
      follows = f;
      is_begun = record {
        shelves = c.in_ok-begun.ensures.shelves;
        ledger = c.in_ok-begun.ensures.ledger;
        last = c.in_ok-begun.ensures.last;
        tick = c.in_ok-begun.ensures.tick;
      };
      moment_is = moment_at _ c.effective-moment.result c.args.order.moment now given
          (c.effective-moment.ensures.seen choose history f.holds.storage);
      due_is = sym (c.needs_tick-is_due.ensures choose history f.holds.channels f.holds.storage) ∙ c.if-is_due.false;
    }) bounds
