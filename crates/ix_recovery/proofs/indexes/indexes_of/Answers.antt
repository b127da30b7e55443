use Rattle.std.proofs.Common.{sym, subst}
use Rattle.std.proofs.lemmas.Result.{IfOk-weaker}
use Rattle.ix_recovery.specs.Recalled.{AreSorted, itself}
use Rattle.ix_recovery.proofs.IndexBuckets.{shelved_so}
use Rattle.ix_recovery.proofs.indexes.indexes_of.Goals as goal

pub returns : goal.returns
returns c =
    let sorted = c.as_slice.result.now in
    let in_order : AreSorted itself c.args.names.items sorted =
    subst (AreSorted itself c.args.names.items) (sym c.as_slice.ensures.value) c.names_by_bytes-sorted.ensures in
    IfOk-weaker c.view_indexes.result _ _
    (λ views shelves. shelved_so c.args.names.items sorted c.args.placed.now c.args.set.now c.in_ok-indexes.indexes.items views in_order
    c.in_ok-indexes.ensures shelves)
    c.view_indexes.ensures
