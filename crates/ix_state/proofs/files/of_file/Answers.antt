use Rattle.ix_state.proofs.Lists.{kept_more}
use Rattle.ix_state.proofs.files.of_file.Goals as goal

pub loop-one-preserved : goal.loop-one-preserved
loop-one-preserved c =
    kept_more c.args.file c.args.kept.now c.loop-one.one-index c.one-item.result c.loop-one.list c.add_of.new.list _ c.loop-one-test.true
    c.one-item.is
    c.in_ok-add_of.ensures c.loop-one.invariant
