use Rattle.std.proofs.Common.{[], ◌∷◌}
use Rattle.ix_items.specs.declared.items.Entry.{Entry}
use Rattle.ix_items.specs.declared.items.Item.TheVariants as items
use Rattle.ix_catalog.specs.Changes.{IsPut}
use Rattle.ix_catalog.proofs.changes.put_entries.Given as goal

abbrev pub invariant-loop-entry : goal.invariant-loop-entry
invariant-loop-entry l = IsPut (λ (e : Entry). items.Ledger e ∷ []) l.more l.entry-index l.initial.items l.items
