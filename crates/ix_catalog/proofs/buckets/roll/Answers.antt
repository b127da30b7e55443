use Rattle.std.proofs.Common.{arith}
use Rattle.ix_catalog.specs.Buckets.{rolled}
use Rattle.ix_catalog.specs.Filling.{at_id}
use Rattle.ix_catalog.proofs.Updates.{mixed_more}
use Rattle.ix_catalog.proofs.buckets.roll.Goals as goal

pub loop-i-preserved : goal.loop-i-preserved
loop-i-preserved c =
    mixed_more c.loop-i.i (at_id c.args.id rolled) c.args.buckets.now c.loop-i.buckets c.roll_at.new.buckets
    (omega (arith, c.loop-i-test.true, c.len-i-end.ensures)) c.loop-i.invariant c.roll_at.ensures
