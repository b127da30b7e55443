use Rattle.std.proofs.Common.{◌≡◌, ℕ, ◌<◌, get_or, ◌||◌, ◌&&◌, false}
use Rattle.ix_pattern.specs.Piece.{in_set}
use Rattle.ix_pattern.specs.Sets.{other_case}
use Rattle.ix_pattern.proofs.sets.folded.Given as goal

abbrev pub invariant-loop-b : goal.invariant-loop-b
invariant-loop-b l = (k : ℕ) → k < l.b → get_or l.x-items k false ≡ (in_set l.set k || (l.fold && in_set l.set (other_case k)))
