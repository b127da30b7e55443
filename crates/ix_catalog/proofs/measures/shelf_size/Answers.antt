use Rattle.std.proofs.Common.{List, length, map, ap, arith}
use Rattle.std.specs.List.{flat_map}
use Rattle.ix_items.specs.Spelling.{body_bytes}
use Rattle.ix_items.specs.declared.items.Item.TheVariants as items
use Rattle.ix_life.specs.declared.views.IndexView.{IndexView}
use Rattle.ix_catalog.specs.Measures.{index_items}
use Rattle.ix_catalog.proofs.Sizes.{size_behind, entries_size}
use Rattle.ix_catalog.proofs.measures.shelf_size.Goals as goal

pub returns : goal.returns
returns c =
    let ledger = c.args.ledger.now in
    let whole = size_behind (flat_map (index_items ledger) c.args.shelves.now.indexes) (map items.Ledger ledger) in
    let same = ap (λ (l : List IndexView). length (body_bytes (flat_map (index_items ledger) l))) c.as_slice.ensures in
    omega (arith, whole, same, entries_size ledger)
