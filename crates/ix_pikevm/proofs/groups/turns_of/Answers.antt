use Rattle.std.proofs.Common.{◌-◌, arith}
use Rattle.std.specs.Prelude.{None, replicate}
use Rattle.ix_pikevm.proofs.ReplayLemmas.{replay-more}
use Rattle.ix_pikevm.proofs.groups.turns_of.Goals as goal

pub loop-i-preserved : goal.loop-i-preserved
loop-i-preserved c =
    record {
      within = omega (arith, c.loop-i.invariant.within);
      is = replay-more (replicate c.args.count None) c.args.events.now c.loop-i.i (c.loop-i.i - 1) c.event_at.result c.loop-i.began.items
          c.apply.new.began.items c.loop-i.groups.items c.apply.new.groups.items
          (omega arith) c.event_at.ensures c.in_ok-apply.ensures c.loop-i.invariant.is;
    }
