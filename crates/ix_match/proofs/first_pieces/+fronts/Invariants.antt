use Rattle.ix_match.proofs.FrontLemmas.{Going}
use Rattle.ix_match.proofs.first_pieces.+fronts.Given as goal

abbrev pub decreases-add_fronts : goal.decreases-add_fronts
decreases-add_fronts l = l.piece

abbrev pub invariant-loop-pieces : goal.invariant-loop-pieces
invariant-loop-pieces l = Going l.p.rows l.piece l.fn.pieces.items l.passes l.at l.pieces.items

abbrev pub decreases-loop-pieces : goal.decreases-loop-pieces
decreases-loop-pieces l = l.at
