use Rattle.std.proofs.Common.{◌≡◌, subst, arith}
use Rattle.std.proofs.lemmas.Result.{IfOk-from_err}
use Rattle.ix_pikevm.specs.Plans.{Knows}
use Rattle.ix_pikevm.specs.Ran.{Goes}
use Rattle.ix_pikevm.proofs.TestLemmas.{counts-none, counts-more}
use Rattle.ix_pikevm.proofs.run.move_on.Goals as goal

pub loop-at-init : goal.loop-at-init
loop-at-init g c = record { moves = λ real sees start place g. g; known = c.requires.known; room = c.requires.room; counts = counts-none }

pub returns-in_err-best : goal.returns-in_err-best
returns-in_err-best g c = record {
  moves = IfOk-from_err c.from_residual.result _ c.from_residual.ensures.0;
  known = IfOk-from_err c.from_residual.result _ c.from_residual.ensures.0;
  room = IfOk-from_err c.from_residual.result _ c.from_residual.ensures.0;
  counts = counts-more c.loop-at.invariant.counts c.onward.ensures.counts;
}

pub loop-at-preserved : goal.loop-at-preserved
loop-at-preserved g c = record {
  moves = λ real sees start place g.
      let s = sees c.loop-at.at (omega arith) in
      c.in_ok-best.ensures.moves real s.0 s.1 s.2 start place (c.loop-at.invariant.moves real sees start place g);
  known = c.in_ok-best.ensures.known;
  room = c.in_ok-best.ensures.room;
  counts = counts-more c.loop-at.invariant.counts c.onward.ensures.counts;
}

pub returns : goal.returns
returns g c = record {
  moves = λ real sees start place g.
      let last : c.loop-at.at ≡ c.args.to = omega arith in
      subst (λ p. Goes (Knows c.args.plan) c.args.plan.code.now real start place p c.loop-at.room.main.cells.items
      c.loop-at.room.main.stack.items c.loop-at.best) last (c.loop-at.invariant.moves real sees start place g);
  known = c.loop-at.invariant.known;
  room = c.loop-at.invariant.room;
  counts = c.loop-at.invariant.counts;
}
