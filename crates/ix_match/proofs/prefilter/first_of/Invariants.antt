use Rattle.std.proofs.Common.{◌≡◌, ℕ, ◌<◌, length}
use Rattle.ix_pattern.specs.Piece.{in_set}
use Rattle.ix_match.specs.Prefilters.{may_be_first}
use Rattle.ix_match.proofs.prefilter.first_of.Given as goal

-- what is known of the bytes so far
abbrev pub invariant-loop-byte : goal.invariant-loop-byte
invariant-loop-byte g l =
    record {
      all : length l.first ≡ 256;
      known : (b : ℕ) → b < l.byte → in_set l.first b ≡ may_be_first l.p b;
    }
