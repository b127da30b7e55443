use Rattle.std.proofs.Common.{◌≡◌, ◌++◌, take}
use Rattle.std.specs.List.{flat_map}
use Rattle.ix_report.specs.Listing as defs
use Rattle.ix_report.proofs.views.add_ledger.Given as goal

abbrev pub invariant-loop-entry : goal.invariant-loop-entry
invariant-loop-entry l = l.text ≡ l.initial.text ++ flat_map (defs.frozen_row) (take l.entry-index l.ledger)
