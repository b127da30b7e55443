use Rattle.std.proofs.Common.{List, ◌++◌, ap, subst, ◌∙◌}
use Rattle.std.specs.List.{AllByRecursion}
use Rattle.ix_items.specs.Spelling.{HasSpelling}
use Rattle.ix_items.specs.declared.items.Bucket.{Bucket}
use Rattle.ix_catalog.proofs.Putting.{put_more}
use Rattle.ix_catalog.proofs.changes.put_indexes.Goals as goal
use Rattle.ix_catalog.specs.Changes.{bucket_changes, index_changes}

pub loop-view-preserved : goal.loop-view-preserved
loop-view-preserved c =
    let ledger = c.args.ledger.now in
    let view = c.view-item.result in
    let before = c.loop-view.items in
    let is = c.buckets_near-next.ensures in
    put_more (index_changes ledger c.args.old.now) _ _ _ _ _ _ c.loop-view-test.true c.view-item.is c.loop-view.invariant
    (c.in_ok-put_index.ensures.put ∙ ap (λ (bs : List Bucket). before ++ bucket_changes ledger bs view) is)
    (subst (λ (bs : List Bucket). AllByRecursion HasSpelling (bucket_changes ledger bs view)) is c.in_ok-put_index.ensures.proper)
