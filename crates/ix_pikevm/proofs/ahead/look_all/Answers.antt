use Rattle.std.proofs.Common.{◌≡◌, ◌<◌, length, refl, ◌∙◌, subst, arith, length-set}
use Rattle.std.proofs.lemmas.Result.{IfOk-from_err}
use Rattle.ix_pikevm.specs.Leaf.{text_of}
use Rattle.ix_pikevm.specs.Programs.{AllLooked}
use Rattle.ix_pikevm.proofs.TestLemmas.{counts-none, counts-more}
use Rattle.ix_pikevm.proofs.LookLemmas.{looked-more}
use Rattle.ix_pikevm.proofs.ahead.look_all.Goals as goal

pub loop-k-init : goal.loop-k-init
loop-k-init g c = record {
  looks = λ rows a t k ask h e. absurd (omega (arith, h));
  all = refl;
  marks = c.requires.marks;
  counts = counts-none;
}

pub look_one-requires-clause-start : goal.look_one-requires-clause-start
look_one-requires-clause-start g c = (c.requires.fit c.loop-k.k c.ask_at-ask.result c.ask_at-ask.ensures).0

pub loop-k-preserved : goal.loop-k-preserved
loop-k-preserved g c =
    let fits = (c.requires.fit c.loop-k.k c.ask_at-ask.result c.ask_at-ask.ensures).1 in
    let there : c.ask_at-ask.result.piece < length c.loop-k.looks.items = omega (arith, fits, c.loop-k.invariant.all) in
    record {
      looks = λ rows a t. looked-more c.loop-k.k c.args.asks.now c.loop-k.looks.items rows (text_of c.args.input) c.args.place
          c.ask_at-ask.result c.in_ok-leaf.leaf c.ask_at-ask.ensures there
          (c.in_ok-leaf.ensures.same rows (a c.loop-k.k c.ask_at-ask.result c.ask_at-ask.ensures) t) (c.loop-k.invariant.looks rows a t);
      all = length-set c.loop-k.looks.items c.ask_at-ask.result.piece c.in_ok-leaf.leaf ∙ c.loop-k.invariant.all;
      marks = c.in_ok-leaf.ensures.marks;
      counts = counts-more c.loop-k.invariant.counts c.look_one.ensures.counts;
    }

pub returns-in_err-leaf : goal.returns-in_err-leaf
returns-in_err-leaf g c = record {
  looks = IfOk-from_err c.from_residual.result _ c.from_residual.ensures.0;
  all = IfOk-from_err c.from_residual.result _ c.from_residual.ensures.0;
  marks = IfOk-from_err c.from_residual.result _ c.from_residual.ensures.0;
  counts = counts-more c.loop-k.invariant.counts c.look_one.ensures.counts;
}

pub returns : goal.returns
returns g c = record {
  looks = λ rows a t.
      let e : c.loop-k.k ≡ length c.args.asks.now = omega arith in
      subst (λ n. AllLooked n c.args.asks.now c.loop-k.looks.items rows (text_of c.args.input) c.args.place) e
      (c.loop-k.invariant.looks rows a t);
  all = c.loop-k.invariant.all;
  marks = c.loop-k.invariant.marks;
  counts = c.loop-k.invariant.counts;
}
