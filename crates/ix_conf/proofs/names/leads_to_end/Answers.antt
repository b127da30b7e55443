use Rattle.std.proofs.Common.{◌≡◌, ◌∷◌, ◌∙◌, ℕ, drop, ap, arith}
use Rattle.ix_conf.specs.Walk.{walk, start, answer}
use Rattle.ix_conf.proofs.MarkLemmas.{marks_long, answer_marked}
use Rattle.ix_conf.proofs.names.leads_to_end.Goals as goal

pub step_back-requires : goal.step_back-requires
step_back-requires c = marks_long c.args.name.now _ (c.loop-at.top ∷ c.loop-at.below.items) c.loop-at.invariant.marked

pub leads_at_front-requires : goal.leads_at_front-requires
leads_at_front-requires c =
    let long = marks_long c.args.name.now _ (c.loop-at.top ∷ c.loop-at.below.items) c.loop-at.invariant.marked in
    record { leads = omega (arith, long.0); others = omega (arith, long.1) }

pub returns : goal.returns
returns c =
    let first : c.loop-at.at ≡ 0 = omega arith in
    c.leads_at_front.ensures ∙ answer_marked c.args.name.now _ c.loop-at.top c.loop-at.below.items c.loop-at.invariant.marked
    ∙ ap (λ (n : ℕ). answer (walk c.args.fold (drop n c.args.tokens.now) start) c.args.name.now) first
