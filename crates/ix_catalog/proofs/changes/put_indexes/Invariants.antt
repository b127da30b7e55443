use Rattle.ix_catalog.specs.Changes.{IsPut, index_changes}
use Rattle.ix_catalog.proofs.changes.put_indexes.Given as goal

abbrev pub invariant-loop-view : goal.invariant-loop-view
invariant-loop-view l = IsPut (index_changes l.ledger l.old) l.new l.view-index l.initial.items l.items
