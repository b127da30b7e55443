use Rattle.std.proofs.Common.{◌≡◌, ◌≤◌, ◌*◌, ◌^◌, take}
use Rattle.ix_report.specs.Sums as defs
use Rattle.ix_report.proofs.sums.frozen_events.Given as goal

abbrev pub invariant-loop-entry : goal.invariant-loop-entry
invariant-loop-entry l = record {
  sum : l.total ≡ defs.frozen_events l.index (take l.entry-index l.ledger);
  short : l.total ≤ l.entry-index * 2 ^ 64;
}
