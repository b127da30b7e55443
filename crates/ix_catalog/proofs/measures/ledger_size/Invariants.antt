use Rattle.std.proofs.Common.{◌≡◌, length, take}
use Rattle.std.specs.List.{sum_by}
use Rattle.ix_items.specs.Spelling.{item_bytes}
use Rattle.ix_items.specs.declared.items.Entry.{Entry}
use Rattle.ix_items.specs.declared.items.Item.TheVariants as items
use Rattle.ix_catalog.specs.Measures.{capped}
use Rattle.ix_catalog.proofs.measures.ledger_size.Given as goal

abbrev pub invariant-loop-entry : goal.invariant-loop-entry
invariant-loop-entry l = l.total ≡ capped (sum_by (λ (e : Entry). length (item_bytes (items.Ledger e))) (take l.entry-index l.ledger))
