use Rattle.std.proofs.Common.{◌<◌, length}
use Rattle.ix_pattern.specs.Rows.{piece_at, tree}
use Rattle.ix_match.specs.Leads.{Leads}
use Rattle.ix_match.proofs.leads.lead_of.Given as goal

abbrev pub invariant-loop-bytes : goal.invariant-loop-bytes
invariant-loop-bytes g l =
    record {
      below : l.at < length l.p.rows;
      leads : Leads (tree l.p.rows) (piece_at l.p.rows l.at) l.bytes.items;
    }

abbrev pub decreases-loop-bytes : goal.decreases-loop-bytes
decreases-loop-bytes g l = l.at
