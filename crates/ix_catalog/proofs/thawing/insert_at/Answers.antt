use Rattle.std.proofs.Common.{◌∙◌, ap, sym}
use Rattle.ix_life.specs.declared.views.IndexView.{IndexView}
use Rattle.ix_catalog.specs.Turning.{insert_id}
use Rattle.ix_catalog.proofs.PlaceLemmas.{put_back, same_view}
use Rattle.ix_catalog.proofs.thawing.insert_at.Goals as goal

pub returns-clause-ok : goal.returns-clause-ok
returns-clause-ok c = λ v h.
    put_back c.args.indexes.now _ _ c.args.at _ v _ (λ (y : IndexView). insert_id c.args.bucket y.buckets) c.take_out-view.ensures.there
    c.take_out-view.ensures.others h c.replace.ensures.items
    (c.in_ok-list.ensures ∙ ap (λ (y : IndexView). insert_id c.args.bucket y.buckets)
    (sym c.index-as_slice-at.is ∙ same_view c.args.indexes.now _ c.args.at c.index-as_slice-at.result _ c.requires c.as_slice.ensures
    c.index-as_slice-at.is c.take_out-view.ensures.there))
