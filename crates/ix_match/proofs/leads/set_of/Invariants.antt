use Rattle.std.proofs.Common.{◌≡◌, ℕ, ◌<◌, length}
use Rattle.ix_pattern.specs.Piece.{in_set}
use Rattle.ix_pattern.specs.Rows.{set_at}
use Rattle.ix_match.proofs.leads.set_of.Given as goal

-- what is known of the bytes so far
abbrev pub invariant-loop-byte : goal.invariant-loop-byte
invariant-loop-byte g l =
    record {
      all : length l.set ≡ 256;
      known : (b : ℕ) → b < l.byte → in_set l.set b ≡ in_set (set_at l.p.rows l.piece) b;
    }
