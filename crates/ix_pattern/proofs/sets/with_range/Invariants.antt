use Rattle.std.proofs.Common.{◌≡◌, ℕ, ◌<◌, get_or, ◌||◌, ◌&&◌, nat_le, false}
use Rattle.ix_pattern.specs.Piece.{in_set}
use Rattle.ix_pattern.proofs.sets.with_range.Given as goal

abbrev pub invariant-loop-b : goal.invariant-loop-b
invariant-loop-b l = (k : ℕ) → k < l.b → get_or l.x-items k false ≡ (in_set l.set k || (nat_le l.low k && nat_le k l.high))
