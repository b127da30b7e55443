use Rattle.std.proofs.Common.{◌≡◌, ◌≤◌, ◌*◌, ◌^◌, take}
use Rattle.std.specs.List.{sum_by}
use Rattle.ix_items.specs.declared.items.Entry.{Entry}
use Rattle.ix_catalog.proofs.measures.ledger_bytes.Given as goal

abbrev pub invariant-loop-entry : goal.invariant-loop-entry
invariant-loop-entry l = (l.total ≡ sum_by (λ (x : Entry). x.bytes) (take l.entry-index l.ledger)) × (l.total ≤ 2 ^ 64 * l.entry-index)
