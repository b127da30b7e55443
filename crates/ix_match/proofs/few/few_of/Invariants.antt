use Rattle.std.proofs.Common.{◌≡◌, ℕ, ◌<◌}
use Rattle.ix_pattern.specs.Piece.{in_set}
use Rattle.ix_match.specs.Few.{is_one_of}
use Rattle.ix_match.proofs.few.few_of.Given as goal

-- so far the set's bytes are these
abbrev pub invariant-loop-byte : goal.invariant-loop-byte
invariant-loop-byte l = (b : ℕ) → b < l.byte → in_set l.set b ≡ is_one_of l.few b
