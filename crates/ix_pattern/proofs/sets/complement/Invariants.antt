use Rattle.std.proofs.Common.{◌≡◌, ℕ, ◌<◌, get_or, not, false}
use Rattle.ix_pattern.specs.Piece.{in_set}
use Rattle.ix_pattern.proofs.sets.complement.Given as goal

abbrev pub invariant-loop-b : goal.invariant-loop-b
invariant-loop-b l = (k : ℕ) → k < l.b → get_or l.x-items k false ≡ (not (in_set l.set k))
