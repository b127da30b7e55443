use Rattle.std.proofs.Common.{◌<◌, length, arith}
use Rattle.ix_catalog.proofs.TurningLemmas.{fold_step}
use Rattle.ix_catalog.proofs.housekeeping_result.turn_all.Goals as goal

pub loop-i-preserved : goal.loop-i-preserved
loop-i-preserved c =
    let l : c.loop-i.i < length c.as_slice-indexes.result.now = omega arith in
    record {
      made = fold_step _ _ c.as_slice-indexes.result.now c.loop-i.i c.index-indexes-i.result l c.index-indexes-i.is _ _
          c.loop-i.invariant.made c.in_ok-turn_index.ensures.made;
      counted = c.in_ok-turn_index.ensures.counted;
    }
