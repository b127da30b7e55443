use Rattle.ix_recovery.specs.Putting.{IsPut, entry_item}
use Rattle.ix_recovery.proofs.shelves.put_entries.Given as goal

abbrev pub invariant-loop-entry : goal.invariant-loop-entry
invariant-loop-entry l = IsPut entry_item l.ledger l.entry-index l.initial.said l.said
