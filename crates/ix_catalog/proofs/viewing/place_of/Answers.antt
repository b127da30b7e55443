use Rattle.std.proofs.Common.{◌<◌, length, arith}
use Rattle.ix_catalog.proofs.PlaceLemmas.{place_here, named_so}
use Rattle.ix_catalog.proofs.viewing.place_of.Goals as goal

pub returns-then-eq-clause-some : goal.returns-then-eq-clause-some
returns-then-eq-clause-some c =
    let l : c.loop-at.at < length c.args.indexes.now = omega arith in
    place_here c.args.name.now c.args.indexes.now c.loop-at.at c.index-indexes-at.result l c.index-indexes-at.is
    (named_so c.args.name.now c.as_slice.result.now c.args.indexes.now c.loop-at.at c.index-indexes-at.result _ c.as_slice.ensures
    c.index-indexes-at.is c.if-eq.ensures)
    c.loop-at.invariant.found c.loop-at.invariant.changed
