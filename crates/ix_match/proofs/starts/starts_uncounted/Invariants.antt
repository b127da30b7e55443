use Rattle.std.proofs.Common.{◌≡◌, ℕ, ◌<◌, length}
use Rattle.ix_pattern.specs.Piece.{in_set}
use Rattle.ix_pattern.specs.Rows.{tree}
use Rattle.ix_match.specs.Starts.{may_begin}
use Rattle.ix_match.proofs.starts.starts_uncounted.Given as goal

-- what is known of the bytes so far
abbrev pub invariant-loop-byte : goal.invariant-loop-byte
invariant-loop-byte g l =
    record {
      all : length l.starts ≡ 256;
      known : (b : ℕ) → b < l.byte → in_set l.starts b ≡ may_begin (tree l.p.rows) b;
    }
