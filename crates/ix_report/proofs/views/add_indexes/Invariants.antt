use Rattle.std.proofs.Common.{◌≡◌, ◌++◌, take}
use Rattle.std.specs.List.{flat_map}
use Rattle.ix_report.specs.Listing as defs
use Rattle.ix_report.proofs.views.add_indexes.Given as goal

abbrev pub invariant-loop-index : goal.invariant-loop-index
invariant-loop-index l = l.text ≡ l.initial.text ++ flat_map (defs.index_rows l.ledger) (take l.index-index l.indexes)
