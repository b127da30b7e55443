use Rattle.std.proofs.Common.{◌≡◌, ℕ, suc, ◌+◌, ◌-◌, sym, ◌∙◌, ap, arith}
use Rattle.std.specs.Prelude.{slice_get}
use Rattle.ix_transforms.specs.Matches.{matches}
use Rattle.ix_transforms.proofs.MatchLemmas.{nth-first, nth-none, nth-more}
use Rattle.ix_transforms.proofs.matches.nth_match.Goals as goal

pub returns-in_default-clause-is : goal.returns-in_default-clause-is
returns-in_default-clause-is c =
    sym (nth-none c.args.pattern.now c.args.text.now c.loop-turn.from (c.args.number - c.loop-turn._turn) (sym c.in_ok-found.ensures.first
    ∙ c.in_default.is))
    ∙ c.loop-turn.invariant

pub returns-clause-is : goal.returns-clause-is
returns-clause-is c =
    let p = c.args.pattern.now in
    let text = c.args.text.now in
    let last : c.args.number - c.loop-turn._turn ≡ 0 = omega arith in
    c.in_ok-found-2.ensures.first ∙ sym (nth-first p text c.loop-turn.from)
    ∙ ap (slice_get (matches p text c.loop-turn.from)) (sym last) ∙ c.loop-turn.invariant

pub loop-turn-preserved : goal.loop-turn-preserved
loop-turn-preserved c =
    let p = c.args.pattern.now in
    let text = c.args.text.now in
    let left : suc (c.args.number - (c.loop-turn._turn + 1)) ≡ c.args.number - c.loop-turn._turn = omega arith in
    let more = nth-more p text c.loop-turn.from (c.args.number - (c.loop-turn._turn + 1)) c.in-Some.found (sym c.in_ok-found.ensures.first
    ∙ c.in-Some.is) in
    ap (λ (k : ℕ). slice_get (matches p text k) (c.args.number - (c.loop-turn._turn + 1))) c.behind-from.ensures
    ∙ sym more ∙ ap (slice_get (matches p text c.loop-turn.from)) left ∙ c.loop-turn.invariant
