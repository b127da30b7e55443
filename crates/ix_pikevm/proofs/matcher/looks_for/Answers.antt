use Rattle.std.proofs.Common.{rules, ◌≡◌, [], ◌∷◌, length, length-append, inr, ◌∙◌, ap, arith}
use Rattle.ix_pikevm.specs.declared.leaf.Leaf.TheVariants.{Never}
use Rattle.ix_pikevm.proofs.matcher.looks_for.Goals as goal

pub returns : goal.returns
returns c =
    let all : length c.in_ok-looks.looks.items ≡ c.root-root.result = search rules in
    let one = length-append c.in_ok-looks.looks.items (Never ∷ []) in
    inr (ap length c.in_ok-push.ensures.items ∙ (let last = c.root-root.ensures.last in omega (arith, one, all, last)))
