use Rattle.std.proofs.Common.{List, ap, arith}
use Rattle.std.specs.List.{sum_by}
use Rattle.std.proofs.lemmas.List.Sums.{sum_by_more}
use Rattle.ix_items.specs.declared.items.Bucket.{Bucket}
use Rattle.ix_catalog.specs.Measures.{bytes_in}
use Rattle.ix_catalog.proofs.measures.shelf_bytes.Goals as goal

pub loop-view-preserved : goal.loop-view-preserved
loop-view-preserved c =
    let more = sum_by_more bytes_in c.args.indexes.now c.loop-view.view-index c.view-item.result c.loop-view-test.true in
    let here = ap (λ (bs : List Bucket). sum_by (λ (b : Bucket). b.bytes) bs) c.as_slice.ensures in
    omega (arith, more, here, ap bytes_in c.view-item.is, c.bytes_of.ensures, c.saturating_add-total.ensures, c.loop-view.invariant)
