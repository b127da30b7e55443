use Rattle.std.proofs.Common.{arith, inl, inr, ◌++◌, ◌∙◌, sym, ap}
use Rattle.std.proofs.lemmas.Result.{IfOk-from_err}
use Rattle.ix_pikevm.specs.Leaf.{text_of}
use Rattle.ix_pikevm.specs.Attempts.{IsSettled}
use Rattle.ix_pikevm.proofs.TestLemmas.{counts-none}
use Rattle.ix_pikevm.proofs.AttemptLemmas.{settled-sees}
use Rattle.ix_pikevm.proofs.attempt.keep_up.Goals as goal

pub returns-clause-lasts : goal.returns-clause-lasts
returns-clause-lasts g c = λ start lasts real goes_on.
    let seen = text_of c.args.input in
    let settled : IsSettled c.args.plan.asks.now seen c.settled_place-to.result = elim c.settled_place-to.ensures.settled [
      | inl e ↦ absurd (let other = c.if-to-attempt.false in omega (arith, e, other))
      | inr s ↦ s
    ] in
    c.in_ok-best.ensures.moves real (settled-sees c.args.plan.asks.now seen real c.settled_place-to.result settled goes_on) start 0
    (lasts real goes_on)

pub returns-clause-threads : goal.returns-clause-threads
returns-clause-threads g c =
    sym (c.in_ok-extend_from_slice.ensures.items ∙ ap (λ l. l ++ c.deref.result.now) c.clear.ensures.items ∙ c.deref.ensures.value)

pub returns-then-to-attempt : goal.returns-then-to-attempt
returns-then-to-attempt g c = record {
  lasts = λ start lasts. lasts;
  known = c.requires.known;
  threads = c.requires.threads;
  within = c.requires.within;
  room = c.requires.room;
  counts = counts-none;
}

pub returns-in_err-best : goal.returns-in_err-best
returns-in_err-best g c = record {
  lasts = IfOk-from_err c.from_residual.result _ c.from_residual.ensures.0;
  known = IfOk-from_err c.from_residual.result _ c.from_residual.ensures.0;
  threads = IfOk-from_err c.from_residual.result _ c.from_residual.ensures.0;
  within = IfOk-from_err c.from_residual.result _ c.from_residual.ensures.0;
  room = IfOk-from_err c.from_residual.result _ c.from_residual.ensures.0;
  counts = c.move_on.ensures.counts;
}

pub returns-in_err-extend_from_slice : goal.returns-in_err-extend_from_slice
returns-in_err-extend_from_slice g c = record {
  lasts = IfOk-from_err c.from_residual-in_err-extend_from_slice.result _ c.from_residual-in_err-extend_from_slice.ensures.0;
  known = IfOk-from_err c.from_residual-in_err-extend_from_slice.result _ c.from_residual-in_err-extend_from_slice.ensures.0;
  threads = IfOk-from_err c.from_residual-in_err-extend_from_slice.result _ c.from_residual-in_err-extend_from_slice.ensures.0;
  within = IfOk-from_err c.from_residual-in_err-extend_from_slice.result _ c.from_residual-in_err-extend_from_slice.ensures.0;
  room = IfOk-from_err c.from_residual-in_err-extend_from_slice.result _ c.from_residual-in_err-extend_from_slice.ensures.0;
  counts = c.move_on.ensures.counts;
}
