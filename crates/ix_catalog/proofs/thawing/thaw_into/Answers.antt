use Rattle.std.proofs.Common.{◌∙◌, ap, set}
use Rattle.ix_items.specs.declared.items.Bucket.{Bucket}
use Rattle.ix_catalog.specs.Shelves.{with_buckets}
use Rattle.ix_catalog.specs.Turning.{insert_id, thaw_index}
use Rattle.ix_catalog.proofs.PlaceLemmas.{changed_at}
use Rattle.ix_catalog.proofs.thawing.thaw_into.Goals as goal

pub returns-in_ok-insert_at-in-Some-clause-ok : goal.returns-in_ok-insert_at-in-Some-clause-ok
returns-in_ok-insert_at-in-Some-clause-ok c =
    changed_at c.args.entry.now.index _ c.args.indexes.now _ c.insert_at.new.indexes c.in-Some.at (thaw_index c.args.entry.now c.args.file)
    c.as_slice.ensures c.as_slice-2.ensures c.in-Some.ensures.some
    (λ v h. c.in_ok-insert_at-in-Some.ensures.ok v h
    ∙ ap (λ (b : Bucket). set c.args.indexes.now c.in-Some.at (with_buckets (insert_id b v.buckets) v)) c.thawed.ensures)
