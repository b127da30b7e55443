use Rattle.std.proofs.Common.{rules, ℕ, ◌≡◌, length, refl, subst, arith}
use Rattle.std.proofs.lemmas.List.{nil_from_length}
use Rattle.std.proofs.lemmas.Result.{IfOk-from_err, IfOk-weaker}
use Rattle.ix_pikevm.specs.Leaf.{text_of}
use Rattle.ix_pikevm.specs.Ran.{Goes, Ends, Grown}
use Rattle.ix_pikevm.specs.Plans.{Knows}
use Rattle.ix_pikevm.proofs.TestLemmas.{counts-none, counts-more}
use Rattle.ix_pikevm.proofs.AgreeLemmas.{agrees-refl}
use Rattle.ix_pikevm.proofs.RunLemmas.{grown-none, grown-both, ends-here}
use Rattle.ix_pikevm.proofs.run.walk.Goals as goal

pub loop-at-init : goal.loop-at-init
loop-at-init g c = record {
  goes = λ start place g. g;
  grown = grown-none c.args.room.now.main.cells.items;
  known = c.requires.known;
  room = c.requires.room;
  counts = counts-none;
}

pub returns-then-is_empty : goal.returns-then-is_empty
returns-then-is_empty g c = record {
  head =
      let none : length c.loop-at.room.main.stack.items ≡ 0 = search rules in
      λ start place g. ends-here (Knows c.args.plan) c.args.plan.code.now (text_of c.args.input) start place c.loop-at.at
      c.loop-at.room.main.cells.items c.loop-at.room.main.stack.items c.loop-at.best
      (nil_from_length c.loop-at.room.main.stack.items none) (c.loop-at.invariant.goes start place g);
  room = c.loop-at.invariant.room;
  counts = c.loop-at.invariant.counts;
  grown = c.loop-at.invariant.grown;
}

pub returns-in_err-best : goal.returns-in_err-best
returns-in_err-best g c = record {
  head = IfOk-from_err c.from_residual.result _ c.from_residual.ensures.0;
  room = IfOk-from_err c.from_residual.result _ c.from_residual.ensures.0;
  counts = counts-more c.loop-at.invariant.counts c.onward.ensures.counts;
  grown = IfOk-from_err c.from_residual.result _ c.from_residual.ensures.0;
}

pub loop-at-preserved : goal.loop-at-preserved
loop-at-preserved g c = record {
  goes = λ start place g. c.in_ok-best.ensures.moves (text_of c.args.input) (agrees-refl (text_of c.args.input) c.loop-at.at (omega arith))
      (λ k ask got. refl) refl start place (c.loop-at.invariant.goes start place g);
  grown = grown-both c.loop-at.invariant.grown c.in_ok-best.ensures.grown;
  known = c.in_ok-best.ensures.known;
  room = c.in_ok-best.ensures.room;
  counts = counts-more c.loop-at.invariant.counts c.onward.ensures.counts;
}

pub returns : goal.returns
returns g c = record {
  head =
      let last : c.loop-at.at ≡ length c.args.input.bytes.now = omega arith in
      IfOk-weaker c.last_round.result
      (λ best. (start place : ℕ) → Goes (Knows c.args.plan) c.args.plan.code.now (text_of c.args.input) start place
      (length c.args.input.bytes.now) c.loop-at.room.main.cells.items c.loop-at.room.main.stack.items c.loop-at.best →
      Ends (Knows c.args.plan) c.args.plan.code.now (text_of c.args.input) start place c.last_round.new.room.main.cells.items best)
      (λ best. (start place : ℕ) → Goes (Knows c.args.plan) c.args.plan.code.now (text_of c.args.input) start place c.args.from
      c.args.room.now.main.cells.items c.args.room.now.main.stack.items c.args.first →
      Ends (Knows c.args.plan) c.args.plan.code.now (text_of c.args.input) start place c.last_round.new.room.main.cells.items best)
      (λ best ends start place g. ends start place (subst
      (λ p. Goes (Knows c.args.plan) c.args.plan.code.now (text_of c.args.input) start place p c.loop-at.room.main.cells.items
      c.loop-at.room.main.stack.items c.loop-at.best) last (c.loop-at.invariant.goes start place g))) c.last_round.ensures.head;
  room = c.last_round.ensures.room;
  counts = counts-more c.loop-at.invariant.counts c.last_round.ensures.counts;
  grown = IfOk-weaker c.last_round.result (λ _. Grown c.loop-at.room.main.cells.items c.last_round.new.room.main.cells.items)
      (λ _. Grown c.args.room.now.main.cells.items c.last_round.new.room.main.cells.items)
      (λ _ more. grown-both c.loop-at.invariant.grown more) c.last_round.ensures.grown;
}
