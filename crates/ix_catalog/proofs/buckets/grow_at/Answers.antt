use Rattle.std.specs.Prelude.{IsErrOf}
use Rattle.ix_catalog.specs.declared.placer.DealFault.TheVariants as faults
use Rattle.std.proofs.Common.{rules, ◌∙◌}
use Rattle.ix_catalog.specs.Filling.{grown}
use Rattle.ix_catalog.specs.Numbers.{KeepsBucket}
use Rattle.ix_catalog.proofs.Updates.{skipped, changed, changed_at}
use Rattle.ix_catalog.proofs.buckets.grow_at.Goals as goal

pub returns-then-bucket-id-clause-done : goal.returns-then-bucket-id-clause-done
returns-then-bucket-id-clause-done c =
    let t = rw c.as_slice.ensures at c.if-bucket-id.true in
    skipped c.args.at c.args.id (grown c.args.limits.now c.args.growth.now) c.args.buckets.now _ c.requires.within t

pub returns-clause-done : goal.returns-clause-done
returns-clause-done c =
    let t = rw c.as_slice.ensures at c.if-bucket-id.false in
    let g = rw c.as_slice.ensures at c.in_ok-more.ensures.done in
    c.replace.ensures.items ∙ changed c.args.at c.args.id (grown c.args.limits.now c.args.growth.now) c.args.buckets.now _ c.in_ok-more.more
    c.requires.within t g

pub returns-in_err-more-clause-full : goal.returns-in_err-more-clause-full
returns-in_err-more-clause-full c = λ is all.
    let was : IsErrOf c.grow.result faults.Full = search rules in
    let t = rw c.as_slice.ensures at c.if-bucket-id.false in
    let full = rw c.as_slice.ensures at c.grow.ensures.full in
    full was (changed_at KeepsBucket c.args.at c.args.id (grown c.args.limits.now c.args.growth.now) c.args.buckets.now _ c.requires.within
    t all)
