use Rattle.std.proofs.Common.{◌≡◌, length, take}
use Rattle.std.specs.List.{flat_map}
use Rattle.ix_items.specs.Spelling.{body_bytes}
use Rattle.ix_catalog.specs.Measures.{capped, index_items}
use Rattle.ix_catalog.proofs.measures.index_sizes.Given as goal

abbrev pub invariant-loop-view : goal.invariant-loop-view
invariant-loop-view l = l.total ≡ capped (length (body_bytes (flat_map (index_items l.ledger) (take l.view-index l.indexes))))
