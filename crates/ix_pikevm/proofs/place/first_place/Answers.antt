use Rattle.std.proofs.Common.{◌≡◌, ℕ, ◌+◌, ◌-◌, ◌/◌, ◌∙◌, length, ap, subst, arith}
use Rattle.std.proofs.Math.Nat.{le_trans}
use Rattle.std.proofs.lemmas.Result.{IfOk-from_err}
use Rattle.ix_pikevm.specs.Places.{whole, ways_at, IsBefore}
use Rattle.ix_pikevm.proofs.PlaceLemmas.{no-ways-joined}
use Rattle.ix_pikevm.proofs.place.first_place.Goals as goal

pub loop-high-preserved : goal.loop-high-preserved
loop-high-preserved g c =
    let p = c.args.p.now in
    let text = whole c.args.text.now in
    let low = c.loop-high.low in
    let middle : ℕ = low + (c.loop-high.high - low) / 2 in
    let inv = c.loop-high.invariant in
    let lack = subst (IsBefore p text low middle) c.in-None.is c.in_ok-end-2.ensures.before in
    record {
      later = omega (arith, inv.later);
      order = omega (arith, c.loop-high-test.true, inv.order);
      within = inv.within;
      none = no-ways-joined p text c.args.from low middle inv.none lack;
      some = λ none. inv.some (no-ways-joined p text low middle c.loop-high.high lack none);
      room = c.in_ok-end-2.ensures.room;
      steps = le_trans inv.steps c.way_before-in-loop-high.ensures.later;
      tabled = λ whole. c.way_before-in-loop-high.ensures.tabled whole ∙ inv.tabled whole;
    }

pub returns-in_err-end : goal.returns-in_err-end
returns-in_err-end g c = record {
  place = IfOk-from_err c.from_residual.result _ c.from_residual.ensures.0;
  room = IfOk-from_err c.from_residual.result _ c.from_residual.ensures.0;
  later = c.way_before.ensures.later;
  tabled = c.way_before.ensures.tabled;
}

pub returns-in_default : goal.returns-in_default
returns-in_default g c = record {
  place = subst (IsBefore c.args.p.now (whole c.args.text.now) c.args.from (length c.args.text.now + 1)) c.in_default.is
      c.in_ok-end.ensures.before;
  room = c.in_ok-end.ensures.room;
  later = c.way_before.ensures.later;
  tabled = c.way_before.ensures.tabled;
}

pub returns-in_err-end-2 : goal.returns-in_err-end-2
returns-in_err-end-2 g c = record {
  place = IfOk-from_err c.from_residual-in_err-end-2.result _ c.from_residual-in_err-end-2.ensures.0;
  room = IfOk-from_err c.from_residual-in_err-end-2.result _ c.from_residual-in_err-end-2.ensures.0;
  later = le_trans c.loop-high.invariant.steps c.way_before-in-loop-high.ensures.later;
  tabled = λ whole. c.way_before-in-loop-high.ensures.tabled whole ∙ c.loop-high.invariant.tabled whole;
}

pub returns : goal.returns
returns g c = record {
  place =
      let inv = c.loop-high.invariant in (
        inv.later,
        omega (arith, inv.order, inv.within),
        inv.none,
        λ e. inv.some (λ q low high.
            let same : q ≡ c.loop-high.low = omega (arith, low, high, c.loop-high-test.false) in
            ap (ways_at c.args.p.now (whole c.args.text.now)) same ∙ e),
      );
  room = c.loop-high.invariant.room;
  later = c.loop-high.invariant.steps;
  tabled = c.loop-high.invariant.tabled;
}
