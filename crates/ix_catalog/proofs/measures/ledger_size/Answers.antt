use Rattle.std.proofs.Common.{◌≡◌, ◌+◌, length, ap, arith}
use Rattle.std.proofs.lemmas.List.Sums.{sum_by_more}
use Rattle.ix_items.specs.Spelling.{item_bytes}
use Rattle.ix_items.specs.declared.items.Entry.{Entry}
use Rattle.ix_items.specs.declared.items.Item.TheVariants as items
use Rattle.ix_catalog.proofs.Sizes.{entry_size}
use Rattle.ix_catalog.proofs.measures.ledger_size.Goals as goal

pub loop-entry-preserved : goal.loop-entry-preserved
loop-entry-preserved c =
    let e = c.entry-item.result in
    let size = λ (x : Entry). length (item_bytes (items.Ledger x)) in
    let more = sum_by_more size c.args.ledger.now c.loop-entry.entry-index e c.loop-entry-test.true in
    let here : size e ≡ 62 + length e.index = entry_size e in
    omega (arith, more, here, ap size c.entry-item.is, c.loop-entry.invariant)
