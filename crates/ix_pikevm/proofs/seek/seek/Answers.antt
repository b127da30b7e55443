use Rattle.std.proofs.Common.{rules, ◌≡◌, ◌+◌, min, length, sym, subst, arith, reverse}
use Rattle.std.proofs.lemmas.List.{nil_from_length}
use Rattle.std.proofs.lemmas.Option.{slice_get-get_or}
use Rattle.std.proofs.lemmas.Result.{IfOk-from_err}
use Rattle.ix_pikevm.specs.Acts.{AllKnown}
use Rattle.ix_pikevm.specs.Leaf.{text_of}
use Rattle.ix_pikevm.specs.Plans.{Knows}
use Rattle.ix_pikevm.specs.Seeks.{Have, Carry, Turned}
use Rattle.ix_pikevm.proofs.TestLemmas.{counts-none, counts-more}
use Rattle.ix_pikevm.proofs.SeekLemmas.{carry-init, found-before, lack-before, lack-closed}
use Rattle.ix_pikevm.proofs.seek.seek.Goals as goal

pub loop-at-init : goal.loop-at-init
loop-at-init g c = record {
  carry = carry-init (Knows c.args.plan) c.args.plan.code.now (text_of c.args.input) c.args.start c.args.from (min c.args.from c.args.to)
      c.args.from c.clear-2.new.self.items c.clear-2.ensures.items (omega arith);
  known = subst (AllKnown (length c.args.plan.code.now) (length c.clear.new.self.items)) (sym c.clear-2.ensures.items) tt;
  room = c.requires.room;
  counts = counts-none;
}

pub loop-at-preserved : goal.loop-at-preserved
loop-at-preserved g c =
    record {
      carry = c.in_ok-pass.ensures.passed (text_of c.args.input) c.loop-at.at
          (slice_get-get_or c.args.input.bytes.now c.loop-at.at 0 (omega arith)) c.args.start c.args.from (min (c.loop-at.at + 1) c.args.to)
          (subst (Turned (Knows c.args.plan) c.args.plan.code.now (text_of c.args.input) c.args.start c.args.from
          (min (c.loop-at.at + 1) c.args.to) c.loop-at.at c.turn.new.room.main.ready.items) c.if-branch.false
          (c.in_ok-turn.ensures.turned c.args.from c.loop-at.auto.at c.loop-at.invariant.carry));
      known = c.in_ok-pass.ensures.known;
      room = c.in_ok-pass.ensures.room;
      counts = counts-more (counts-more c.loop-at.invariant.counts c.turn.ensures.counts) c.pass.ensures.counts;
    }

pub returns-in_err-turn : goal.returns-in_err-turn
returns-in_err-turn g c = record {
  sought = IfOk-from_err c.from_residual.result _ c.from_residual.ensures.0;
  room = IfOk-from_err c.from_residual.result _ c.from_residual.ensures.0;
  counts = counts-more c.loop-at.invariant.counts c.turn.ensures.counts;
}

pub returns-then-branch : goal.returns-then-branch
returns-then-branch g c = record {
  sought = found-before (Knows c.args.plan) c.args.plan.code.now (text_of c.args.input) c.args.start c.args.from c.args.to c.loop-at.at
      c.min.result c.turn.new.room.main.ready.items (omega arith)
      (subst (Turned (Knows c.args.plan) c.args.plan.code.now (text_of c.args.input) c.args.start c.args.from
      (min (c.loop-at.at + 1) c.args.to) c.loop-at.at c.turn.new.room.main.ready.items) c.if-branch.true
      (c.in_ok-turn.ensures.turned c.args.from c.loop-at.auto.at c.loop-at.invariant.carry));
  room = c.in_ok-turn.ensures.room;
  counts = counts-more c.loop-at.invariant.counts c.turn.ensures.counts;
}

pub returns-then-at-to : goal.returns-then-at-to
returns-then-at-to g c = record {
  sought =
      let none : length c.turn.new.room.main.ready.items ≡ 0 = search rules in
      lack-before (Knows c.args.plan) c.args.plan.code.now (text_of c.args.input) c.args.start c.args.from c.args.to c.loop-at.at
      c.turn.new.room.main.ready.items (nil_from_length c.turn.new.room.main.ready.items none) (omega arith)
      (subst (Turned (Knows c.args.plan) c.args.plan.code.now (text_of c.args.input) c.args.start c.args.from
      (min (c.loop-at.at + 1) c.args.to) c.loop-at.at c.turn.new.room.main.ready.items) c.if-branch.false
      (c.in_ok-turn.ensures.turned c.args.from c.loop-at.auto.at c.loop-at.invariant.carry));
  room = c.in_ok-turn.ensures.room;
  counts = counts-more c.loop-at.invariant.counts c.turn.ensures.counts;
}

pub returns-in_err-pass : goal.returns-in_err-pass
returns-in_err-pass g c = record {
  sought = IfOk-from_err c.from_residual-in_err-pass.result _ c.from_residual-in_err-pass.ensures.0;
  room = IfOk-from_err c.from_residual-in_err-pass.result _ c.from_residual-in_err-pass.ensures.0;
  counts = counts-more (counts-more c.loop-at.invariant.counts c.turn.ensures.counts) c.pass.ensures.counts;
}

pub returns-in_err-turn-2 : goal.returns-in_err-turn-2
returns-in_err-turn-2 g c = record {
  sought = IfOk-from_err c.from_residual-in_err-turn-2.result _ c.from_residual-in_err-turn-2.ensures.0;
  room = IfOk-from_err c.from_residual-in_err-turn-2.result _ c.from_residual-in_err-turn-2.ensures.0;
  counts = counts-more c.loop-at.invariant.counts c.turn-2.ensures.counts;
}

pub returns-then-branch-2 : goal.returns-then-branch-2
returns-then-branch-2 g c = record {
  sought =
      let last : c.loop-at.at ≡ length c.args.input.bytes.now = omega arith in
      let whole : min (length c.args.input.bytes.now + 1) c.args.to ≡ c.args.to = omega (arith, c.requires.to) in (
        omega arith,
        subst (λ k. Have (Knows c.args.plan) c.args.plan.code.now (text_of c.args.input) c.args.start c.args.from k) whole
            (subst (Turned (Knows c.args.plan) c.args.plan.code.now (text_of c.args.input) c.args.start c.args.from
            (min (length c.args.input.bytes.now + 1) c.args.to) (length c.args.input.bytes.now) c.turn-2.new.room.main.ready.items)
            c.if-branch-2.true
            (c.in_ok-turn-2.ensures.turned c.args.from c.requires.from
            (subst (λ k. Carry (Knows c.args.plan) c.args.plan.code.now (text_of c.args.input) c.args.start c.args.from (min k c.args.to) k
            (reverse c.loop-at.room.main.stack.items)) last c.loop-at.invariant.carry))),
      );
  room = c.in_ok-turn-2.ensures.room;
  counts = counts-more c.loop-at.invariant.counts c.turn-2.ensures.counts;
}

pub returns : goal.returns
returns g c = record {
  sought =
      let last : c.loop-at.at ≡ length c.args.input.bytes.now = omega arith in
      let whole : min (length c.args.input.bytes.now + 1) c.args.to ≡ c.args.to = omega (arith, c.requires.to) in
      lack-closed (Knows c.args.plan) c.args.plan.code.now (text_of c.args.input) c.args.start c.args.from c.args.to
      (min (length c.args.input.bytes.now + 1) c.args.to) c.turn-2.new.room.main.ready.items
      c.in_ok-turn-2.ensures.bytes c.requires.closed whole
      (subst (Turned (Knows c.args.plan) c.args.plan.code.now (text_of c.args.input) c.args.start c.args.from
      (min (length c.args.input.bytes.now + 1) c.args.to) (length c.args.input.bytes.now) c.turn-2.new.room.main.ready.items)
      c.if-branch-2.false
      (c.in_ok-turn-2.ensures.turned c.args.from c.requires.from
      (subst (λ k. Carry (Knows c.args.plan) c.args.plan.code.now (text_of c.args.input) c.args.start c.args.from (min k c.args.to) k
      (reverse c.loop-at.room.main.stack.items)) last c.loop-at.invariant.carry)));
  room = c.in_ok-turn-2.ensures.room;
  counts = counts-more c.loop-at.invariant.counts c.turn-2.ensures.counts;
}
