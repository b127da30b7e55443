use Rattle.ix_recovery.specs.Putting.{IsPut, number_items}
use Rattle.ix_recovery.proofs.shelves.put_numbers.Given as goal

abbrev pub invariant-loop-view : goal.invariant-loop-view
invariant-loop-view l = IsPut (number_items l.ledger) l.indexes l.view-index l.initial.said l.said
