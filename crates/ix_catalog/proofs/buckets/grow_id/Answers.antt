use Rattle.std.specs.Prelude.{IsErrOf}
use Rattle.ix_catalog.specs.declared.placer.DealFault.TheVariants as faults
use Rattle.std.proofs.Common.{rules, arith, sym, subst, refl, ◌+◌, List}
use Rattle.std.specs.List.{AllByRecursion}
use Rattle.ix_items.specs.declared.items.Bucket.{Bucket}
use Rattle.ix_catalog.specs.Filling.{at_id, grown}
use Rattle.ix_catalog.specs.Lists.{update}
use Rattle.ix_catalog.specs.Numbers.{KeepsBucket}
use Rattle.ix_catalog.proofs.Updates.{mixed_more, all_mixed}
use Rattle.ix_catalog.proofs.buckets.grow_id.Goals as goal

pub returns-in_err-grow_at-clause-full : goal.returns-in_err-grow_at-clause-full
returns-in_err-grow_at-clause-full c = λ is all.
    let was : IsErrOf c.grow_at.result faults.Full = search rules in
    let f = at_id c.args.id (grown c.args.limits.now c.args.growth.now) in
    let more = mixed_more c.loop-i.i f c.args.buckets.now c.loop-i.buckets (update c.loop-i.i f c.loop-i.buckets)
    (omega (arith, c.loop-i-test.true, c.len-i-end.ensures)) c.loop-i.invariant.done refl in
    c.grow_at.ensures.full was (subst (λ (bs : List Bucket). AllByRecursion KeepsBucket bs) (sym more)
    (all_mixed KeepsBucket f (c.loop-i.i + 1) c.args.buckets.now all c.requires.numbers))

pub loop-i-preserved : goal.loop-i-preserved
loop-i-preserved c = record {
  done = mixed_more c.loop-i.i (at_id c.args.id (grown c.args.limits.now c.args.growth.now)) c.args.buckets.now c.loop-i.buckets
      c.grow_at.new.buckets
      (omega (arith, c.loop-i-test.true, c.len-i-end.ensures)) c.loop-i.invariant.done c.in_ok-grow_at.ensures.done;
  kept = c.in_ok-grow_at.ensures.kept;
}
