use Rattle.std.proofs.Common.{map}
use Rattle.ix_life.specs.declared.views.IndexView.{IndexView}
use Rattle.ix_catalog.specs.Buckets.{rolled_if_open}
use Rattle.ix_catalog.proofs.PlaceLemmas.{put_back}
use Rattle.ix_catalog.proofs.rolling.roll_at.Goals as goal

pub returns-clause-indexes : goal.returns-clause-indexes
returns-clause-indexes c = λ v h.
    put_back c.args.indexes.now _ _ c.args.at _ v _ (λ (y : IndexView). map rolled_if_open y.buckets) c.take_out-view.ensures.there
    c.take_out-view.ensures.others h c.replace.ensures.items c.roll_buckets.ensures
