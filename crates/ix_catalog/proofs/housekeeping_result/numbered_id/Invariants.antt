use Rattle.std.proofs.Common.{◌≡◌, drop}
use Rattle.ix_catalog.specs.Turning as defs
use Rattle.ix_catalog.proofs.housekeeping_result.numbered_id.Given as goal

abbrev pub invariant-loop-i : goal.invariant-loop-i
invariant-loop-i l = defs.numbered_id l.id (drop l.i l.numbered) ≡ defs.numbered_id l.id l.numbered
