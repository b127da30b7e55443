use Rattle.std.proofs.Common.{rules, ℕ, ◌≡◌, length, subst, arith}
use Rattle.std.proofs.lemmas.List.{nil_from_length}
use Rattle.std.proofs.lemmas.Result.{IfOk-from_err, IfOk-weaker}
use Rattle.ix_pattern.specs.Rows.{Rows}
use Rattle.ix_pikevm.specs.Leaf.{text_of}
use Rattle.ix_pikevm.specs.Ran.{IsOf, Goes, Ends, Grown}
use Rattle.ix_pikevm.proofs.TestLemmas.{counts-none, counts-more}
use Rattle.ix_pikevm.proofs.RunLemmas.{grown-none, grown-both, ends-here}
use Rattle.ix_pikevm.proofs.plain.walk.Goals as goal

pub loop-at-init : goal.loop-at-init
loop-at-init g c = record {
  goes = λ start place g. g;
  grown = grown-none c.args.work.now.cells.items;
  known = c.requires.known;
  marks = c.requires.marks;
  counts = counts-none;
}

pub returns-then-is_empty : goal.returns-then-is_empty
returns-then-is_empty g c = record {
  head =
      let none : length c.loop-at.work.stack.items ≡ 0 = search rules in
      λ start place g. ends-here (IsOf c.args.tests.pattern.now.rows) c.args.code.now (text_of c.args.input) start place c.loop-at.at
      c.loop-at.work.cells.items c.loop-at.work.stack.items c.loop-at.best (nil_from_length c.loop-at.work.stack.items none)
      (c.loop-at.invariant.goes start place g);
  marks = c.loop-at.invariant.marks;
  grown = c.loop-at.invariant.grown;
  counts = c.loop-at.invariant.counts;
}

pub returns-in_err-best : goal.returns-in_err-best
returns-in_err-best g c = record {
  head = IfOk-from_err c.from_residual.result _ c.from_residual.ensures.0;
  marks = IfOk-from_err c.from_residual.result _ c.from_residual.ensures.0;
  grown = IfOk-from_err c.from_residual.result _ c.from_residual.ensures.0;
  counts = counts-more c.loop-at.invariant.counts c.onward.ensures.counts;
}

pub loop-at-preserved : goal.loop-at-preserved
loop-at-preserved g c = record {
  goes = λ start place g. c.in_ok-best.ensures.moves start place (c.loop-at.invariant.goes start place g);
  grown = grown-both c.loop-at.invariant.grown c.in_ok-best.ensures.grown;
  known = c.in_ok-best.ensures.known;
  marks = c.in_ok-best.ensures.marks;
  counts = counts-more c.loop-at.invariant.counts c.onward.ensures.counts;
}

pub returns : goal.returns
returns g c = record {
  head =
      let last : c.loop-at.at ≡ length c.args.input.bytes.now = omega arith in
      IfOk-weaker c.last_round.result
      (λ best. (pattern : Rows) (start place : ℕ) → Goes (IsOf pattern) c.args.code.now (text_of c.args.input) start place
      (length c.args.input.bytes.now) c.loop-at.work.cells.items c.loop-at.work.stack.items c.loop-at.best →
      Ends (IsOf pattern) c.args.code.now (text_of c.args.input) start place c.last_round.new.work.cells.items best)
      (λ best. (start place : ℕ) → Goes (IsOf c.args.tests.pattern.now.rows) c.args.code.now (text_of c.args.input) start place c.args.from
      c.args.work.now.cells.items c.args.work.now.stack.items c.args.first →
      Ends (IsOf c.args.tests.pattern.now.rows) c.args.code.now (text_of c.args.input) start place c.last_round.new.work.cells.items
      best)
      (λ best ends start place g. ends c.args.tests.pattern.now.rows start place
      (subst (λ p. Goes (IsOf c.args.tests.pattern.now.rows) c.args.code.now (text_of c.args.input) start place p
      c.loop-at.work.cells.items c.loop-at.work.stack.items c.loop-at.best) last (c.loop-at.invariant.goes start place g)))
      c.last_round.ensures.head;
  marks = c.last_round.ensures.marks;
  grown = IfOk-weaker c.last_round.result (λ _. Grown c.loop-at.work.cells.items c.last_round.new.work.cells.items)
      (λ _. Grown c.args.work.now.cells.items c.last_round.new.work.cells.items) (λ _ more. grown-both c.loop-at.invariant.grown more)
      c.last_round.ensures.grown;
  counts = c.loop-at.invariant.counts;
}
