use Rattle.std.proofs.Common.{drop, Some}
use Rattle.ix_pattern.specs.Rows.{tree}
use Rattle.ix_match.specs.Fronts.{fronts, in_one}
use Rattle.ix_match.proofs.FrontLemmas.{Left}
use Rattle.ix_match.proofs.first_pieces.may_begin.Given as goal

-- the pieces that are left
abbrev pub invariant-loop-k : goal.invariant-loop-k
invariant-loop-k g l = Left l.p.rows (Some l.byte) (drop l.k l.front.pieces.items) (in_one (Some l.byte) (fronts (tree l.p.rows)))
