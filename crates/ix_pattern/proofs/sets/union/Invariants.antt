use Rattle.std.proofs.Common.{◌≡◌, ℕ, ◌<◌, get_or, ◌||◌, false}
use Rattle.ix_pattern.specs.Piece.{in_set}
use Rattle.ix_pattern.proofs.sets.union.Given as goal

abbrev pub invariant-loop-b : goal.invariant-loop-b
invariant-loop-b l = (k : ℕ) → k < l.b → get_or l.x-items k false ≡ (in_set l.set k || in_set l.other k)
