use Rattle.std.proofs.Common.{refl}
use Rattle.ix_pattern.proofs.PartLemmas.{group-part}
use Rattle.ix_pattern.proofs.parts.group.Goals as goal

pub returns-clause-meaning : goal.returns-clause-meaning
returns-clause-meaning c =
    λ p w i. group-part _ _ _ _ _ p w c.in_ok-piece.ensures.grew c.in_ok-piece.ensures.number.1 c.in_ok-piece.ensures.made
    c.limited.ensures refl refl i
