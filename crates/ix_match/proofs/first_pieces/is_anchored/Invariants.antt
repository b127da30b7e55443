use Rattle.std.proofs.Common.{◌≡◌, ◌<◌, length}
use Rattle.ix_pattern.specs.Rows.{piece_at, tree}
use Rattle.ix_match.specs.Fronts.{anchored}
use Rattle.ix_match.proofs.first_pieces.is_anchored.Given as goal

abbrev pub invariant-loop-lines : goal.invariant-loop-lines
invariant-loop-lines l =
    record {
      below : l.at < length l.p.rows;
      same : anchored (piece_at l.p.rows l.at) ≡ anchored (tree l.p.rows);
    }

abbrev pub decreases-loop-lines : goal.decreases-loop-lines
decreases-loop-lines l = l.at
