use Rattle.std.proofs.Common.{max, true, false, ◌+◌, ◌*◌, ◌<◌, ◌≤◌, length}
use Rattle.ix_pattern.specs.Piece.{seq, either, IsPlain}
use Rattle.ix_pattern.specs.Rows.{piece_at}
use Rattle.ix_pikevm.specs.Looks.{HasNoLook}
use Rattle.ix_pikevm.specs.Aims.{Writes, pre_maybe, pre_turns}
use Rattle.ix_pikevm.proofs.ChainLemmas.{Chaining}
use Rattle.ix_pikevm.proofs.compile.+writing.Given as goal

abbrev pub decreases-write_piece : goal.decreases-write_piece
decreases-write_piece l = 2 * l.piece + 1

abbrev pub decreases-write_sequence : goal.decreases-write_sequence
decreases-write_sequence l = 2 * max l.first l.rest + 2

abbrev pub decreases-write_alternatives : goal.decreases-write_alternatives
decreases-write_alternatives l = 2 * max l.first l.rest + 2

abbrev pub invariant-write_sequence-loop-part : goal.invariant-write_sequence-loop-part
invariant-write_sequence-loop-part l =
    Chaining l.p.rows true (max l.first l.rest) (seq (piece_at l.p.rows l.first) (piece_at l.p.rows l.rest)) l.next l.fn.code.items
    l.parts.items l.code.items l.now

abbrev pub decreases-write_sequence-loop-part : goal.decreases-write_sequence-loop-part
decreases-write_sequence-loop-part l = length l.parts.items

abbrev pub invariant-write_alternatives-loop-part : goal.invariant-write_alternatives-loop-part
invariant-write_alternatives-loop-part l =
    Chaining l.p.rows false (max l.first l.rest) (either (piece_at l.p.rows l.first) (piece_at l.p.rows l.rest)) l.next l.fn.code.items
    l.parts.items l.code.items l.now

abbrev pub decreases-write_alternatives-loop-part : goal.decreases-write_alternatives-loop-part
decreases-write_alternatives-loop-part l = length l.parts.items

abbrev pub decreases-write_star : goal.decreases-write_star
decreases-write_star l = 2 * l.inside + 2

abbrev pub decreases-write_maybe : goal.decreases-write_maybe
decreases-write_maybe l = 2 * l.inside + 2

abbrev pub decreases-write_turns : goal.decreases-write_turns
decreases-write_turns l = 2 * l.inside + 2

abbrev pub invariant-write_maybe-loop-i : goal.invariant-write_maybe-loop-i
invariant-write_maybe-loop-i l =
    record {
      writes : Writes l.p.rows (pre_maybe (piece_at l.p.rows l.inside) l.lazy l._i) l.next l.fn.code.items l.code.items l.now;
      within : l.now < length l.code.items;
      grown : length l.fn.code.items ≤ length l.code.items;
      plain : IsPlain (piece_at l.p.rows l.inside) → HasNoLook l.fn.code.items → HasNoLook l.code.items;
    }

abbrev pub invariant-write_turns-loop-i : goal.invariant-write_turns-loop-i
invariant-write_turns-loop-i l =
    record {
      writes : Writes l.p.rows (pre_turns (piece_at l.p.rows l.inside) l._i) l.next l.fn.code.items l.code.items l.now;
      within : l.now < length l.code.items;
      grown : length l.fn.code.items ≤ length l.code.items;
      plain : IsPlain (piece_at l.p.rows l.inside) → HasNoLook l.fn.code.items → HasNoLook l.code.items;
    }
