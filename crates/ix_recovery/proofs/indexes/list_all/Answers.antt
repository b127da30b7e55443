use Rattle.ix_recovery.specs.Recalled.{IsListed}
use Rattle.ix_recovery.proofs.Turns.{zip_more}
use Rattle.ix_recovery.proofs.indexes.list_all.Goals as goal

pub loop-name-preserved : goal.loop-name-preserved
loop-name-preserved c =
    zip_more (IsListed c.args.placed.now) c.args.names.now c.loop-name.name-index c.name-item.result c.loop-name.indexes.items
    c.push.new.self.items
    c.in_ok-index.index c.loop-name-test.true c.name-item.is c.loop-name.invariant c.in_ok-index.ensures c.in_ok-push.ensures.items
