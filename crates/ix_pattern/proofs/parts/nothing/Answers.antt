use Rattle.std.proofs.Common.{refl}
use Rattle.ix_pattern.specs.Piece.{least_length}
use Rattle.ix_pattern.proofs.PartLemmas.{leaf-part}
use Rattle.ix_pattern.proofs.parts.nothing.Goals as goal

pub returns-clause-meaning : goal.returns-clause-meaning
unfolding least_length
returns-clause-meaning c = leaf-part _ _ _ _ c.in_ok-piece.ensures.grew c.in_ok-piece.ensures.number.1 c.in_ok-piece.ensures.made refl refl
    refl
