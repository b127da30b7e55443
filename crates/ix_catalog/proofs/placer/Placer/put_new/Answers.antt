use Rattle.std.proofs.Common.{◌≡◌, ◌<◌, ◌^◌, arith, ap, subst, sym, List}
use Rattle.std.specs.List.{AllByRecursion}
use Rattle.ix_items.specs.declared.items.Bucket.{Bucket}
use Rattle.ix_catalog.specs.Buckets.{size}
use Rattle.ix_catalog.specs.Numbers.{KeepsBucket}
use Rattle.ix_catalog.specs.declared.buckets.Growth.{Growth}
use Rattle.ix_catalog.proofs.Updates.{all_push}
use Rattle.ix_catalog.proofs.placer.Placer.put_new.Goals as goal

pub returns-clause-kept : goal.returns-clause-kept
returns-clause-kept c =
    let b = c.begin-bucket.result in
    let g : c.growth-growth.result.size ≡ c.in_ok-size.size = ap (λ (x : Growth). x.size) c.growth-growth.ensures in
    let p : b.bytes ≡ c.growth-growth.result.size = c.begin-bucket.ensures.bytes in
    let n : b.count ≡ 1 = c.begin-bucket.ensures.count in
    let z : c.in_ok-size.size ≡ size c.args.placement.now.event.now = c.in_ok-size.ensures.size in
    let s : size c.args.placement.now.event.now < 2 ^ 32 = c.requires.small in
    let k : KeepsBucket b = record { bytes = omega (arith, p, g, z, s); count = omega (arith, n) } in
    subst (λ (bs : List Bucket). AllByRecursion KeepsBucket bs) (sym c.in_ok-push.ensures.ok)
    (all_push KeepsBucket c.roll_some.new.buckets b (c.roll_some.ensures.kept c.requires.numbers) k)
