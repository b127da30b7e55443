use Rattle.std.proofs.Common.{◌<◌, ◌∙◌, ap, length, arith}
use Rattle.std.proofs.lemmas.List.{length-set}
use Rattle.ix_catalog.specs.Buckets.{rolled_if_open}
use Rattle.ix_catalog.proofs.PlaceLemmas.{mapped_step}
use Rattle.ix_catalog.proofs.rolling.roll_buckets.Goals as goal

pub loop-at-preserved : goal.loop-at-preserved
loop-at-preserved c =
    let l : c.loop-at.at < length c.args.list.now = omega arith in
    record {
      count = ap length c.replace.ensures.items ∙ length-set c.loop-at.list c.loop-at.at c.rolled_if_open.result
          ∙ c.loop-at.invariant.count;
      rolled = c.replace.ensures.items ∙ mapped_step rolled_if_open c.args.list.now c.loop-at.list c.loop-at.at c.bucket_at-bucket.result
          c.rolled_if_open.result l
          c.loop-at.invariant.rolled c.bucket_at-bucket.ensures c.rolled_if_open.ensures;
    }
