use Rattle.std.proofs.Common.{◌≡◌, ◌+◌, ◌-◌, ◌∙◌, ◌∷◌, drop, sym, ap, arith}
use Rattle.std.specs.Prelude.{None, Some}
use Rattle.std.proofs.lemmas.Grind.{common_steps}
use Rattle.std.proofs.lemmas.List.{drop_more}
use Rattle.ix_conf.specs.declared.tokens.Token.TheVariants.{Open}
use Rattle.ix_conf.specs.Names.{waiting, opened}
use Rattle.ix_conf.proofs.TokenLemmas.{never_paired}
use Rattle.ix_conf.proofs.tokens.waiting.Goals as goal

pub returns-in-Open : goal.returns-in-Open
returns-in-Open c =
    let at = c.loop-at.at - 1 in
    let tokens = c.args.tokens.now in
    let here : drop at tokens ≡ Open ∷ drop (at + 1) tokens = drop_more tokens at Open (omega arith)
    ∙ ap (λ t. t ∷ drop (at + 1) tokens) (grind (arith, common_steps)) in
    let next : at + 1 ≡ c.loop-at.at = omega arith in
    let none : waiting (drop at tokens) ≡ None =
    ap waiting here ∙ ap (λ n. opened (waiting (drop n tokens))) next ∙ ap opened c.loop-at.invariant.counted
    ∙ ap (λ n. opened (Some n)) c.if-count-eq0.true in
    sym (never_paired tokens at none)
