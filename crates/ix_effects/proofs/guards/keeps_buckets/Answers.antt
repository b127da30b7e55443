use Rattle.std.proofs.Common.{rules, subst, IsTrue}
use Rattle.std.specs.Prelude.{All}
use Rattle.std.proofs.lemmas.List.{take_all}
use Rattle.std.proofs.lemmas.List.Elements.{All-more}
use Rattle.ix_catalog.specs.Numbers.{KeepsBucket}
use Rattle.ix_effects.proofs.guards.keeps_buckets.Goals as goal

pub loop-bucket-preserved : goal.loop-bucket-preserved
loop-bucket-preserved c =
    let t = c.if-not-keeps_bucket.false in
    let yes : IsTrue c.keeps_bucket.result = search rules in
    All-more KeepsBucket c.args.buckets.now c.loop-bucket.bucket-index _ c.loop-bucket-test.true c.loop-bucket.invariant
    (c.keeps_bucket.ensures.0 yes)

pub returns : goal.returns
returns c = (
  (λ yes. subst (All KeepsBucket) (take_all c.loop-bucket.bucket-index c.args.buckets.now c.loop-bucket-test.false)
      c.loop-bucket.invariant),
  (λ all. search rules),
)
