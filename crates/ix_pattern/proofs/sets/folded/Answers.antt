use Rattle.std.proofs.Common.{◌||◌, ◌&&◌, arith}
use Rattle.ix_pattern.specs.Piece.{in_set}
use Rattle.ix_pattern.specs.Sets.{folded, other_case}
use Rattle.ix_pattern.proofs.SetLemmas.{same-set, more-set, read-set}
use Rattle.ix_pattern.proofs.sets.folded.Goals as goal

pub returns : goal.returns
unfolding folded
returns c = same-set _ c.loop-b.x-items c.loop-b-test.array_long (λ k h. c.loop-b.invariant k (omega arith))

pub loop-b-preserved : goal.loop-b-preserved
loop-b-preserved c = more-set (λ k. in_set c.args.set k || (c.args.fold && in_set c.args.set (other_case k))) c.loop-b.x-items c.loop-b.b _
    (omega arith) (simp (c.other_case.ensures.value, read-set)) c.loop-b.invariant
