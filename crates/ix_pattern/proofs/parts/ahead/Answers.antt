use Rattle.std.proofs.Common.{refl}
use Rattle.ix_pattern.proofs.PartLemmas.{ahead-part}
use Rattle.ix_pattern.proofs.parts.ahead.Goals as goal

pub returns-clause-meaning : goal.returns-clause-meaning
returns-clause-meaning c =
    λ p w i. ahead-part _ _ _ _ _ p w c.in_ok-piece.ensures.grew c.in_ok-piece.ensures.number.1 c.in_ok-piece.ensures.made
    c.limited.ensures refl refl i
