use Rattle.std.proofs.Common.{◌++◌, ◌∷◌, [], refl, ◌∙◌, ap}
use Rattle.ix_pikevm.proofs.AttemptLemmas.{stands-first}
use Rattle.ix_pikevm.proofs.attempt.Attempt.begin.Goals as goal

pub returns : goal.returns
returns c = λ rows before bytes.
    stands-first rows c.args.program.now _ before bytes c.requires refl
    (c.in_ok-push.ensures.items ∙ ap (λ l. l ++ record { pc = c.args.program.now.start; trail = 0 } ∷ []) c.clear-2.ensures.items) refl
