use Rattle.std.proofs.Common.{◌≡◌, ℕ, ◌<◌, false, length}
use Rattle.std.specs.Prelude.{slice_get, unwrap_or}
use Rattle.ix_pattern.specs.Rows.{piece_at}
use Rattle.ix_match.specs.Starts.{may_begin}
use Rattle.ix_match.proofs.starts.begins.Given as goal

-- what is known of the pieces so far
abbrev pub invariant-loop-piece : goal.invariant-loop-piece
invariant-loop-piece g l =
    record {
      below : length l.below.items ≡ l.piece;
      known : (k : ℕ) → k < l.piece → unwrap_or (slice_get l.below.items k) false ≡ may_begin (piece_at l.p.rows k) l.byte;
    }
