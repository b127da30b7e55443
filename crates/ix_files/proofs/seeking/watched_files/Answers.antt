use Rattle.std.proofs.Common.{◌<◌, ◌∙◌, length, sym, le_trans, arith}
use Rattle.ix_files.proofs.Adding.{own_more}
use Rattle.ix_files.proofs.Finding.{found_more}
use Rattle.ix_files.proofs.seeking.watched_files.Goals as goal

pub loop-at-preserved : goal.loop-at-preserved
loop-at-preserved g c =
    let less : c.loop-at.at < length c.args.inputs.now = omega (arith, c.loop-at-test.true, c.loop-at.auto.at-end) in
    record {
      found = found_more (g.T.Tree.files c.args.tree.now) (g.T.Tree.files c.loop-at.tree) c.args.inputs.now
          c.loop-at.at c.index-inputs-at.result c.loop-at.files c.add_files.new.files c.loop-at.invariant.same less c.index-inputs-at.is
          c.loop-at.invariant.found c.in_ok-add_files.ensures.added;
      own = own_more c.args.inputs.now c.index-inputs-at.result c.loop-at.files c.add_files.new.files
          (c.loop-at.at, less, sym c.index-inputs-at.is) c.loop-at.invariant.own c.in_ok-add_files.ensures.own;
      same = c.add_files.ensures.same ∙ c.loop-at.invariant.same;
      later = le_trans c.loop-at.invariant.later c.add_files.ensures.cause.later;
      later_missing = le_trans c.loop-at.invariant.later_missing c.add_files.ensures.cause.later_missing;
    }
