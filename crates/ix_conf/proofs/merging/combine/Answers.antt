use Rattle.ix_conf.proofs.MergeLemmas.{merging_step}
use Rattle.ix_conf.proofs.merging.combine.Goals as goal

pub loop-entry-preserved : goal.loop-entry-preserved
loop-entry-preserved c =
    let step = merging_step _ _ _ _ c.in-Some.entry _ _ c.loop-entry.invariant c.in-Some.ensures in
    rw c.in_ok-push.ensures step
