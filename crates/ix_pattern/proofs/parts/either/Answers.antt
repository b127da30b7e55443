use Rattle.std.proofs.Common.{refl}
use Rattle.ix_pattern.proofs.PartLemmas.{either-part}
use Rattle.ix_pattern.proofs.parts.either.Goals as goal

pub returns-clause-meaning : goal.returns-clause-meaning
returns-clause-meaning c =
    λ p q v w f r. either-part _ _ _ _ _ _ p q v w c.in_ok-piece.ensures.grew c.in_ok-piece.ensures.number.1 c.in_ok-piece.ensures.made
    c.limited.ensures refl refl f r
