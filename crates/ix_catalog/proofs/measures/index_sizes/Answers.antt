use Rattle.std.proofs.Common.{arith}
use Rattle.ix_catalog.specs.Measures.{index_items}
use Rattle.ix_catalog.proofs.Sizes.{size_more}
use Rattle.ix_catalog.proofs.measures.index_sizes.Goals as goal

pub loop-view-preserved : goal.loop-view-preserved
loop-view-preserved c =
    let more = size_more (index_items c.args.ledger.now) c.args.indexes.now c.loop-view.view-index c.view-item.result c.loop-view-test.true
    c.view-item.is in
    omega (arith, more, c.index_size.ensures, c.saturating_add-total.ensures, c.loop-view.invariant)
