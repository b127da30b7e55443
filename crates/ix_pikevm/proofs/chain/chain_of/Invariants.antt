use Rattle.std.proofs.Common.{◌<◌, max, length}
use Rattle.ix_pattern.specs.Rows.{piece_at}
use Rattle.ix_pikevm.specs.Chains.{join, IsChain}
use Rattle.ix_pikevm.proofs.chain.chain_of.Given as goal

abbrev pub invariant-loop-part : goal.invariant-loop-part
invariant-loop-part l =
    record {
      chain : IsChain l.p.rows l.sequence (max l.first l.rest) l.parts.items l.last
          (join l.sequence (piece_at l.p.rows l.first) (piece_at l.p.rows l.rest));
      below : l.last < length l.p.rows;
    }

abbrev pub decreases-loop-part : goal.decreases-loop-part
decreases-loop-part l = l.last
