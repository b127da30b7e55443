use Rattle.ix_recovery.specs.Putting.{IsPut, view_items}
use Rattle.ix_recovery.proofs.shelves.put_buckets.Given as goal

abbrev pub invariant-loop-view : goal.invariant-loop-view
invariant-loop-view l = IsPut view_items l.indexes l.view-index l.initial.said l.said
